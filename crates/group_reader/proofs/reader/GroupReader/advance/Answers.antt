-- Proofs of the goals of `GroupReader::advance` (`reader`).
use Rattle.std.proofs.Common.{◌∙◌, ap, map, sym}
use Rattle.fragment_file.specs.View.{block_in}
use Rattle.group_reader.specs.declared.standing.Standing.{Standing}
use Rattle.group_reader.specs.Reader.{ReaderSpec, current_in}
use Rattle.group_reader.proofs.Turns.{stays_ended, stays_refused}
use Rattle.group_reader.proofs.reader.GroupReader.advance.Goals as goal

pub returns-in-AtEnd-clause-told : goal.returns-in-AtEnd-clause-told
returns-in-AtEnd-clause-told g c =
    let inside = c.self.inside in
    stays_ended g.R.Read.remaining c.args.self.now (ap (λ (s : ReaderSpec _). s.standing) (sym c.self.view_is) ∙ c.in-AtEnd.is)
    (ap (λ (s : ReaderSpec _). s.current) (sym c.self.view_is) ∙ ap (λ (s : Standing). current_in s (map (block_in inside.bytes.items) inside.locations.items)) c.in-AtEnd.is)

pub returns-in-Refused-clause-told : goal.returns-in-Refused-clause-told
returns-in-Refused-clause-told g c no_memory no_device =
    stays_refused g.R.Read.remaining c.args.self.now c.in-Refused.fault (ap (λ (s : ReaderSpec _). s.standing) (sym c.self.view_is) ∙ c.in-Refused.is)
