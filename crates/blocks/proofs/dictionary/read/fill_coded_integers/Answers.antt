-- Proofs of the goals of `fill_coded_integers` (`dictionary::read`).
use Rattle.std.proofs.Common.{◌≡◌, ℕ, ◌+◌, ◌<◌, List, [], length, drop, map, get_or, sym, ap, ◌∙◌, arith, ℤ, pos}
use Rattle.std.proofs.lemmas.List.{length-map, length-drop, get_or-drop, get_or-map}
use borrow.Author.Tests.{ltb-true}
use Rattle.std.specs.Prelude.{nat_lt}
use Rattle.std.specs.Int.{from_le_bytes, w16}
use Rattle.bit_packing.specs.Bytes.{integer_of}
use Rattle.blocks.specs.Dictionary.{codes_in}
use Rattle.bit_packing.proofs.Ranges.{stored, all-at}
use Rattle.blocks.proofs.ReadLists.{step-list}
use Rattle.blocks.proofs.dictionary.read.fill_coded_integers.Goals as goal

pub loop-i-preserved : goal.loop-i-preserved
loop-i-preserved c =
    let entries = c.args.entries.now in
    let codes : List ℕ = codes_in c.args.codes.now in
    let i : ℕ = c.loop-i.i in
    let from : ℕ = c.args.from in
    let f : ℕ → ℤ = λ code. get_or (map integer_of entries) code (pos 0) in
    let code : ℕ = get_or codes (from + i) 0 in
    let l : length codes ≡ length c.args.codes.now = length-map c.args.codes.now (from_le_bytes w16) in
    let h : from + i < length codes = omega (arith, l) in
    let b : code < length entries = ltb-true code (length entries) (all-at (λ n. nat_lt n (length entries)) codes (from + i) 0 c.requires.valid h) in
    let k : i < length (drop from (map f codes)) = omega (arith, length-map codes f, length-drop from (map f codes), l) in
    let v : integer_of (get_or entries c.code_at.result []) ≡ f code = ap (λ (n : ℕ). integer_of (get_or entries n [])) c.code_at.ensures ∙ sym (get_or-map integer_of entries code [] (pos 0) b) in
    step-list c.loop-i.out (drop from (map f codes)) i _ (pos 0) (omega arith) k c.loop-i.invariant
    (stored c.from_le_bytes.result c.from_le_bytes.type_inv ∙ c.from_le_bytes.ensures ∙ v ∙ sym (get_or-map f codes (from + i) 0 (pos 0) h) ∙ sym (get_or-drop from (map f codes) i (pos 0)))
