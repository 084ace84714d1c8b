-- Proofs of the goals of `show_group` (`tables`).
use Rattle.std.proofs.Common.{◌++◌, ◌+◌, ◌-◌, ◌∙◌, ◌∷◌, [], ap, length, refl, string_bytes}
use Rattle.std.specs.Prelude.{map}
use Rattle.std.proofs.lemmas.List.{map-append}
use Rattle.answer_text.specs.Reading.{capped}
use Rattle.table_text.specs.TableText.{blocks_text, group_line, group_of}
use Rattle.table_text.proofs.GroupsShown.{line_behind}
use Rattle.table_text.proofs.tables.show_group.Goals as goal

pub returns-clause-shown : goal.returns-clause-shown
returns-clause-shown c =
    let whole = c.args.cursor.now.bytes.now in
    let (blocks, read, text, given) = c.in_ok-shown.ensures.shown in
    let before = length whole - length c.args.cursor.now.rest.now in
    let count = c.len-group.ensures ∙ c.args.groups.now.ok.0 in
    let old = string_bytes c.args.out.now in (
      group_of before c.in_ok-rows.rows blocks,
      rw (c.in_ok-rows.ensures.read, read) refl,
      line_behind old (string_bytes c.put_group.new.out) (string_bytes c.show_group_blocks-shown.new.out) (group_line (length c.args.groups.now.items) (capped (c.args.cursor.now.first + before)) c.in_ok-rows.rows) (blocks_text c.args.columns.now blocks)
          (c.in_ok-put_group.ensures ∙ (λ i. old ++ group_line (count i) (c.at-at.ensures i) c.in_ok-rows.rows)) text,
      (refl, ap (map (λ v. v.items)) c.in_ok-push.ensures.items ∙ map-append (λ v. v.items) c.args.groups.now.items (c.show_group_blocks-shown.new.blocks ∷ []) ∙ ap (λ b. map (λ v. v.items) c.args.groups.now.items ++ b ∷ []) given),
    )
