-- Proofs of the goals of `recoded` (`dictionary::of_cells`).
use Rattle.std.proofs.Common.{◌≡◌, length, sym, ap, ◌∙◌, map, get_or}
use Rattle.std.proofs.lemmas.List.{length-map}
use Rattle.encodings.proofs.RowCodes.{put_back, row_codes}
use Rattle.encodings.proofs.dictionary.of_cells.recoded.Goals as goal

pub returns : goal.returns
returns c = λ cells numbers entries.
    let of_rows = c.args.numbers.of_rows in
    let codes = c.args.entries.codes.items in
    let new : c.recode.new.of_rows ≡ map (λ n. get_or codes n 0) of_rows.items =
    c.recode.ensures ∙ (ap (λ cs. map (λ n. get_or cs n 0) c.as_mut_slice.result.now) c.as_slice.ensures.value ∙ ap (map (λ n. get_or codes n 0)) c.as_mut_slice.ensures.value) in
    let full = sym of_rows.ok.0 in
    let back = put_back of_rows.len c.recode.new.of_rows of_rows.items full (ap length new ∙ (length-map of_rows.items (λ n. get_or codes n 0) ∙ full)) in
    rw (back, new) (row_codes cells c.args.numbers.firsts.items of_rows.items c.args.entries.entry_rows.items codes numbers entries)
