-- Proofs of the goals of `read_frame` (`frame::read`).
use Rattle.std.proofs.Common.{◌≡◌, ℕ, ◌-◌, length, take, drop, ap, ◌∙◌, w64, to_z, of_z, true}
use Rattle.std.specs.List.{list_all}
use Rattle.std.proofs.lemmas.List.{take_rest}
use Rattle.meaning.specs.Operators.{fits_i64}
use Rattle.blocks.specs.Frame.{base_of, frame_integers, packed_of, width_of}
use Rattle.bit_packing.specs.Offsets.{raised_offsets}
use Rattle.blocks.proofs.ReadBodies.{frame_fits, all-part, frame_read}
use Rattle.bit_packing.proofs.Ranges.{stored}
use Rattle.blocks.proofs.frame.read.read_frame.Goals as goal

pub fill_raised-requires-clause-fits : goal.fill_raised-requires-clause-fits
fill_raised-requires-clause-fits c =
    let body = c.args.body.now in
    let rows : ℕ = c.args.rows in
    let from : ℕ = c.args.from in
    let n : ℕ = length c.args.out.now in
    let b : to_z w64 (of_z w64 c.base_at-base.result) ≡ base_of body = stored c.base_at-base.result c.base_at-base.type_inv ∙ c.base_at-base.ensures in
    let fits : list_all fits_i64 (frame_integers rows body) ≡ true
    = frame_fits rows body c.requires.form in
    ap (λ base. list_all fits_i64 (raised_offsets base (width_of body) (take (length body - 9) (drop 9 body)) from n)) b
    ∙ ap (λ packed. list_all fits_i64 (raised_offsets (base_of body) (width_of body) packed from n)) (take_rest body 9)
    ∙ ap (list_all fits_i64) (frame_read (base_of body) (width_of body) (packed_of body) from n rows c.requires.within)
    ∙ all-part fits_i64 n from (frame_integers rows body) fits

pub returns : goal.returns
returns c =
    let body = c.args.body.now in
    let rows : ℕ = c.args.rows in
    let from : ℕ = c.args.from in
    let n : ℕ = length c.args.out.now in
    let b : to_z w64 (of_z w64 c.base_at-base.result) ≡ base_of body = stored c.base_at-base.result c.base_at-base.type_inv ∙ c.base_at-base.ensures in
    c.fill_raised.ensures
    ∙ ap (λ base. raised_offsets base (width_of body) (take (length body - 9) (drop 9 body)) from n) b
    ∙ ap (λ packed. raised_offsets (base_of body) (width_of body) packed from n) (take_rest body 9)
    ∙ frame_read (base_of body) (width_of body) (packed_of body) from n rows c.requires.within
