-- Proofs of the goals of `put_frame` (`frame::encode`).
use Rattle.std.proofs.Common.{◌≡◌, ◌^◌, ◌*◌, rules, length, ℤ, ◌-ℤ◌, unsigned_abs, true, map, sym, ap, subst, ◌∙◌, ◌++◌, w64, to_z, of_z, FitsSigned, refl, List, ℕ}
use Rattle.std.specs.Prelude.{nat_lt}
use Rattle.std.specs.List.{list_all}
use Rattle.std.proofs.lemmas.Int.{to_z-of_z}
use Rattle.bit_packing.specs.Packing.{ArePacked, packed}
use Rattle.bit_packing.specs.Widths.{IsWidth}
use Rattle.blocks.specs.Frame.{least_in, greatest_in}
use Rattle.blocks.specs.Numbers.{integer_bytes}
use Rattle.encodings.proofs.EncodedFrames.{puts_frame, offsets_fit, same_width}
use Rattle.encodings.proofs.frame.encode.put_frame.Goals as goal

pub put_offsets-requires-clause-fit : goal.put_offsets-requires-clause-fit
put_offsets-requires-clause-fit c =
    let ns = c.args.ints.now in
    let f : FitsSigned w64 c.bounds_of-bounds.result.least = search rules in
    let g : FitsSigned w64 c.bounds_of-bounds.result.greatest = search rules in
    let e : to_z w64 (of_z w64 c.bounds_of-bounds.result.least) ≡ least_in ns = to_z-of_z w64 _ f ∙ c.bounds_of-bounds.ensures.least in
    let t : to_z w64 (of_z w64 c.bounds_of-bounds.result.greatest) ≡ greatest_in ns = to_z-of_z w64 _ g ∙ c.bounds_of-bounds.ensures.greatest in
    let w : IsWidth (unsigned_abs (greatest_in ns -ℤ least_in ns)) c.width_of-width.result = same_width _ _ _ _ _ _ c.abs_diff.ensures t e c.width_of-width.ensures in
    subst (λ (b : ℤ). list_all (λ n. nat_lt (unsigned_abs (n -ℤ b)) (2 ^ c.width_of-width.result)) ns ≡ true) (sym e) (offsets_fit ns c.width_of-width.result c.requires.some w)

pub returns : goal.returns
returns c =
    let ns = c.args.ints.now in
    let f : FitsSigned w64 c.bounds_of-bounds.result.least = search rules in
    let g : FitsSigned w64 c.bounds_of-bounds.result.greatest = search rules in
    let e : to_z w64 (of_z w64 c.bounds_of-bounds.result.least) ≡ least_in ns = to_z-of_z w64 _ f ∙ c.bounds_of-bounds.ensures.least in
    let t : to_z w64 (of_z w64 c.bounds_of-bounds.result.greatest) ≡ greatest_in ns = to_z-of_z w64 _ g ∙ c.bounds_of-bounds.ensures.greatest in
    let w : IsWidth (unsigned_abs (greatest_in ns -ℤ least_in ns)) c.width_of-width.result = same_width _ _ _ _ _ _ c.abs_diff.ensures t e c.width_of-width.ensures in
    let base = c.in_ok-put_integer.ensures ∙ (ap (λ (b : ℤ). c.make_room.new.out.items ++ integer_bytes b) e ∙ ap (λ (xs : List ℕ). xs ++ integer_bytes (least_in ns)) c.make_room.ensures.same) in
    let bits : ArePacked c.push.new.self.items c.put_offsets.new.out.items (c.width_of-width.result * length ns) (packed c.width_of-width.result (map (λ n. unsigned_abs (n -ℤ least_in ns)) ns)) =
    subst (λ (b : ℤ). ArePacked c.push.new.self.items c.put_offsets.new.out.items (c.width_of-width.result * length ns) (packed c.width_of-width.result (map (λ n. unsigned_abs (n -ℤ b)) ns))) e c.in_ok-put_offsets.ensures in
    puts_frame c.args.out.now.items c.put_integer.new.out.items c.push.new.self.items c.put_offsets.new.out.items ns c.width_of-width.result _ c.requires.fit c.requires.some w base c.in_ok-push.ensures.items refl bits
