-- Proofs of the goals of `enter` (`dictionary::entries`).
use Rattle.std.proofs.Common.{ℕ, [], length, map, get_or, sym, ap, ◌∙◌, arith}
use Rattle.std.proofs.lemmas.List.{length-map, append-nil}
use Rattle.encodings.proofs.EncodedForms.{index_below}
use Rattle.encodings.proofs.NumberEntries.{entry_next, entry_same, last_code, row_of}
use Rattle.encodings.proofs.dictionary.entries.enter.Goals as goal
use Rattle.encodings.proofs.dictionary.entries.enter.Goals.{then-begins_entry+in_ok-push, else-begins_entry}

pub returns-clause-entries : goal.returns-clause-entries
returns-clause-entries g c =
    let cells = map g.K.Cell.value c.args.cells.now in
    let sorted = map (λ (p : g.row.K.Denot × ℕ). g.K.Cell.value p.0) c.args.sorted.now in
    let index = c.args.index in
    let before = c.args.entry_rows.now.items in
    elim c.if-begins_entry.branch [
      | then-begins_entry+in_ok-push w ↦
          let row = row_of g.K.Cell.value cells c.args.firsts.now c.args.sorted.now index w.index-sorted-index.result c.requires.numbered c.requires.within in
          let long = length-map c.args.cells.now g.K.Cell.value in
          let below = index_below c.args.firsts.now (length c.args.cells.now) (get_or c.args.sorted.now index w.index-sorted-index.result).1 c.requires.rows row.0 in
          rw (w.entry_rows-is, w.in_ok-push.ensures.items) (entry_next cells sorted index before _ c.requires.before (omega arith) row.1 (c.begins_entry.ensures.begins w.if-begins_entry.true))
      | else-begins_entry w ↦
          let stays = c.begins_entry.ensures.stays w.if-begins_entry.false in
          rw w.entry_rows-is (entry_same cells sorted index before c.requires.before stays.0 stays.1)
    ]

pub returns-clause-kept : goal.returns-clause-kept
returns-clause-kept g c = elim c.if-begins_entry.branch [
  | then-begins_entry+in_ok-push w ↦ (_, ap (λ v. v.items) w.entry_rows-is ∙ w.in_ok-push.ensures.items)
  | else-begins_entry w ↦ ([], ap (λ v. v.items) w.entry_rows-is ∙ sym (append-nil c.args.entry_rows.now.items))
]

pub returns-clause-code : goal.returns-clause-code
returns-clause-code g c =
    let cells = map g.K.Cell.value c.args.cells.now in
    let sorted = map (λ (p : g.row.K.Denot × ℕ). g.K.Cell.value p.0) c.args.sorted.now in
    last_code cells sorted c.args.index c.if-begins_entry.entry_rows.items _ (returns-clause-entries g c) (omega (arith, c.len.ensures, c.if-begins_entry.entry_rows.ok.0))
