-- Proofs of the goals of `GroupReader::read_on` (`reader`).
use Rattle.std.proofs.Common.{rules, ◌≡◌, ◌<◌, Some, refl, sym, map}
use Rattle.std.proofs.lemmas.Result.{err_from_is_err_and}
use Rattle.fragment_file.specs.View.{block_in}
use Rattle.group_reader.proofs.Turns.{counts_group, end_told, group_came, group_failed}
use Rattle.group_reader.proofs.reader.GroupReader.read_on.Goals as goal

pub returns-in_err-read_end-clause-told : goal.returns-in_err-read_end-clause-told
returns-in_err-read_end-clause-told g c =
    let none : c.self.inside.left ≡ 0 = search rules in
    let p = err_from_is_err_and c.from_residual.result c.from_residual.ensures.1 in
    rw (p.1, p.2) (λ no_memory no_device. end_told g.R.Read.remaining c.args.self.now _ (sym c.self.view_is) c.requires (Some _) none (c.in_err-read_end.ensures no_memory no_device))

pub returns-in_err-self-inside-clause-told : goal.returns-in_err-self-inside-clause-told
returns-in_err-self-inside-clause-told g c =
    let some : 0 < c.self.inside.left = search rules in
    let p = err_from_is_err_and c.from_residual-in_err-self-inside.result c.from_residual-in_err-self-inside.ensures.1 in
    rw (p.1, p.2) (group_failed g.R.Read.remaining c.args.self.now _ (sym c.self.view_is) c.requires c.next_rows-rows.result _ some c.next_rows-rows.ensures
    (rw c.as_slice.ensures at c.in_err-self-inside.ensures.read))

pub returns-clause-told : goal.returns-clause-told
returns-clause-told g c =
    let some : 0 < c.self.inside.left = search rules in
    let blocks = map (block_in c.next_locations.new.bytes.items) c.in_ok-self-inside.field-0.items in
    group_came g.R.Read.remaining c.args.self.now _ (sym c.self.view_is) c.requires _ c.next_rows-rows.result blocks some c.next_rows-rows.ensures
    (rw c.as_slice.ensures at c.in_ok-self-inside.ensures.read) (λ all rest. refl) refl

pub returns-clause-counted : goal.returns-clause-counted
returns-clause-counted g c =
    let inside = c.self.inside in
    let located = (rw c.as_slice.ensures at c.in_ok-self-inside.ensures.located) in
    rw (← c.self.view_is) (counts_group inside.header.columns inside.left c.next_rows-rows.result c.next_locations.new.bytes.items c.in_ok-self-inside.field-0.items c.self.invariant.header.some (search rules) c.next_rows-rows.ensures located)
