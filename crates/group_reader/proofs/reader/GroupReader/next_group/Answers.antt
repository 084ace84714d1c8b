-- Proofs of the goals of `GroupReader::next_group` (`reader`).
use Rattle.std.proofs.Common.{◌≡◌, Bool, Ok, refl, sym, subst, length}
use Rattle.std.specs.Prelude.{IfSome}
use Rattle.fragment_file.specs.declared.header.Header.{Header}
use Rattle.fragment_file.specs.Fragment.{AreBlocks}
use Rattle.fragment_file.specs.Lent.{AreTypedBlocks, blocks_in}
use Rattle.fragment_file.specs.View.{rows_of}
use Rattle.group_reader.specs.Reader.{Advances, IsFirst}
use Rattle.group_reader.proofs.Turns.{came_first, lent_is}
use Rattle.group_reader.proofs.reader.GroupReader.next_group.Goals as goal

pub returns : goal.returns
returns g c =
    let known = g.R.Read.remaining in
    let old = c.args.self.now in
    let new = c.advance.new.self in
    let found = c.group.result in
    let told = c.in_ok-advance.ensures in
    let more = lent_is blocks_in found new.current c.in_ok-advance.field-0 c.group.ensures.value told.stands in
    let advanced : Advances known old new (Ok c.in_ok-advance.field-0) = record { same = told.same; told = told.told; stands = told.stands; counted = told.counted; refused = tt; none = tt; again = told.again; over = told.over } in (
      (refl, (λ _. tt), (subst (λ (m : Bool). Advances known old new (Ok m)) more advanced, c.group.ensures.value)),
      record {
        after = tt;
        lent = λ c' coming. subst (IsFirst c'.groups) (sym c.group.ensures.value) (came_first known old new c' c.in_ok-advance.field-0 coming told.told);
        count = subst (λ (h : Header). IfSome found (λ group. length (blocks_in group) ≡ length h.columns)) told.same c.group.ensures.count;
        blocks = subst (λ (h : Header). IfSome found (λ group. AreBlocks h.columns (rows_of (blocks_in group)) (blocks_in group))) told.same c.group.ensures.blocks;
        some = c.group.ensures.some;
        typed = subst (λ (h : Header). IfSome found (λ group. AreTypedBlocks h.columns (blocks_in group))) told.same c.group.ensures.typed;
      },
    )
