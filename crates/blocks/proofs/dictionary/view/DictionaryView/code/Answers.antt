-- Proofs of the goals of `DictionaryView::code` (`dictionary::view`).
use Rattle.std.proofs.Common.{◌≡◌, ◌<◌, ◌≤◌, ◌/◌, length, get_or, nat_lt, true, sym, ap, ◌∙◌, arith}
use Rattle.std.proofs.lemmas.Bool.Decides.{nat_tests}
use Rattle.bit_packing.specs.Bytes.{shorts}
use Rattle.blocks.specs.DictionaryView.{DictionarySpec}
use Rattle.bit_packing.proofs.Chunks.{get_or-shorts, length-shorts}
use Rattle.blocks.proofs.Ends.{length-values_form}
use Rattle.blocks.proofs.RowCells.{all_at}
use Rattle.blocks.proofs.dictionary.view.DictionaryView.code.Goals as goal

pub short_at-requires : goal.short_at-requires
short_at-requires c =
    let d = c.self.inside in
    let many : d.rows ≡ length c.args.self.now.codes = sym (length-shorts d.rows d.codes.now) ∙ ap (λ (k : DictionarySpec). length k.codes) c.self.view_is in
    let fit : d.rows ≤ length d.codes.now / 2 = c.self.invariant.codes_fit in
    let within : c.args.row < d.rows = omega arith in
    omega arith

pub returns-clause-value : goal.returns-clause-value
returns-clause-value c =
    let d = c.self.inside in
    let many : d.rows ≡ length c.args.self.now.codes = sym (length-shorts d.rows d.codes.now) ∙ ap (λ (k : DictionarySpec). length k.codes) c.self.view_is in
    let fit : d.rows ≤ length d.codes.now / 2 = c.self.invariant.codes_fit in
    let within : c.args.row < d.rows = omega arith in
    c.short_at.ensures ∙ sym (get_or-shorts d.rows c.args.row d.codes.now within) ∙ ap (λ (k : DictionarySpec). get_or k.codes c.args.row 0) c.self.view_is

pub returns-clause-known : goal.returns-clause-known
returns-clause-known c =
    let d = c.self.inside in
    let many : d.rows ≡ length c.args.self.now.codes = sym (length-shorts d.rows d.codes.now) ∙ ap (λ (k : DictionarySpec). length k.codes) c.self.view_is in
    let fit : d.rows ≤ length d.codes.now / 2 = c.self.invariant.codes_fit in
    let within : c.args.row < d.rows = omega arith in
    let long = length-shorts d.rows d.codes.now in
    let entries = sym (length-values_form d.col_type d.count d.entries.now) ∙ ap (λ (k : DictionarySpec). length k.entries) c.self.view_is in
    let code : c.short_at.result ≡ get_or (shorts d.rows d.codes.now) c.args.row 0 = c.short_at.ensures ∙ sym (get_or-shorts d.rows c.args.row d.codes.now within) in
    let known : nat_lt c.short_at.result d.count ≡ true = ap (λ k. nat_lt k d.count) code ∙ all_at (λ k. nat_lt k d.count) (shorts d.rows d.codes.now) c.args.row 0 (omega arith) c.self.invariant.codes_known in
    let less : c.short_at.result < d.count = grind (arith, nat_tests) in
    omega arith
