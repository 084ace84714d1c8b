-- Proofs of the goals of `sorted_out` (`reading`).
use Rattle.std.proofs.Common.{◌∙◌, ap, sym, ◌++◌, ◌∷◌, []}
use Rattle.std.proofs.lemmas.List.Elements.{filter_map-append}
use Rattle.catalog_reader.specs.CatalogText.{declared_fact, keyed, facts, dims}
use Rattle.catalog_reader.proofs.reading.sorted_out.Goals as goal

pub loop-declared-preserved : goal.loop-declared-preserved
loop-declared-preserved c = (
  c.in_ok-sort_out.ensures.facts ∙ ap (λ ts. ts ++ facts (c.in-Some.declared ∷ [])) c.loop-declared.invariant.0
      ∙ sym (filter_map-append declared_fact c.loop-declared.yielded (c.in-Some.declared ∷ [])),
  c.in_ok-sort_out.ensures.dims ∙ ap (λ ds. ds ++ dims (c.in-Some.declared ∷ [])) c.loop-declared.invariant.1
      ∙ sym (filter_map-append keyed c.loop-declared.yielded (c.in-Some.declared ∷ [])),
)
