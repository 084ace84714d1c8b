-- The cut of a file is the one that was read behind its magic.
use Rattle.std.proofs.Common.{◌≡◌, ◌∙◌, ℕ, zero, suc, ◌&&◌, List, [], ◌∷◌, true, ap, drop, refl, subst, sym}
use Rattle.std.specs.Prelude.{nat_le, if◌then◌else◌, Err, Ok, Result}
use Rattle.meaning.specs.Limits.{max_fragments, max_rows}
use Rattle.wire.specs.Reading.{◌>>=◌, behind_magic, bytes_at, number_at, repeat_at, same_bytes, sealed_end}
use Rattle.wire.specs.declared.fault.WireFault.TheVariants.{Magic}
use Rattle.wire.proofs.Numbers.{bind_ok, ok_is, test_passed}
use Rattle.fragment_file.specs.CutFile.{CutFileSpec, IsCutFileOf, cut_magic, read_cut_file}
use Rattle.fragment_file.specs.CutFile.{length_at as file_length_at}
use Rattle.fragment_file.specs.declared.fault.FileFault.{FileFault}
use Rattle.fragment_file.specs.declared.fault.FileFault.TheVariants as refusal
use Rattle.fragment_file.specs.Fault.{from_wire}
use Rattle.fragment_file.specs.FragmentReading.{within}
use Rattle.fragment_file.proofs.CutLaws.{cut_again}
use Rattle.fragment_file.proofs.FromWire.{read_ok}
use Rattle.fragment_file.proofs.HeaderLaws.{passed}
use Rattle.answer_fields.specs.declared.fault.DecodeFault.{DecodeFault}
use Rattle.table_text.specs.CutText.{cut_at, cut_of, length_at}
use Rattle.show.proofs.Begins.{four_behind}

as_shown : {X : Type 0} (x y : X) → (let r : Result X FileFault = Ok x in r) ≡ Ok y → (let r : Result X DecodeFault = Ok x in r) ≡ Ok y
as_shown x y e = ap (λ z. Ok z) (ok_is {E = FileFault} x y e)

length_same : (bytes : List ℕ) (p : ℕ × List ℕ) → file_length_at bytes ≡ Ok p → length_at bytes ≡ Ok p
unfolding file_length_at
length_same bytes p e =
    let a = read_ok (number_at 4 bytes) (λ n. within (nat_le n.0 max_rows) n) p e in
    let kept = test_passed (nat_le a.0.0 max_rows) refusal.Limit (Ok a.0) p a.2 in
    rw (a.1, kept.0) (as_shown a.0 p kept.1)

lengths_same : (n : ℕ) (bytes : List ℕ) (p : List ℕ × List ℕ) → repeat_at file_length_at n bytes ≡ Ok p → repeat_at length_at n bytes ≡ Ok p
unfolding repeat_at
lengths_same zero bytes p e = as_shown ([], bytes) p e
lengths_same (suc n) bytes p e =
    let a = bind_ok (file_length_at bytes) (λ first. repeat_at file_length_at n first.1 >>= λ others. Ok (first.0 ∷ others.0, others.1)) p e in
    let b = bind_ok (repeat_at file_length_at n a.0.1) (λ others. Ok (a.0.0 ∷ others.0, others.1)) p a.2 in
    rw (length_same bytes a.0 a.1, lengths_same n a.0.1 b.0 b.1) (as_shown (a.0.0 ∷ b.0.0, b.0.1) p b.2)

magic_behind : (bytes behind : List ℕ) → behind_magic cut_magic bytes ≡ Ok behind → behind ≡ drop 4 bytes
unfolding behind_magic
magic_behind bytes behind e =
    let first = bind_ok (bytes_at 4 bytes) (λ first. if same_bytes first.0 cut_magic then Ok first.1 else Err Magic) behind e in
    let kept = test_passed (same_bytes first.0.0 cut_magic) Magic (Ok first.0.1) behind first.2 in
    sym (ok_is first.0.1 behind kept.1) ∙ four_behind bytes first.0 first.1

abbrev behind_lengths : List ℕ → ℕ → List ℕ × List ℕ → Result CutFileSpec FileFault
behind_lengths bytes load cut = from_wire (bytes_at 32 cut.1) >>= λ seal. from_wire (sealed_end bytes seal.0 seal.1) >>= λ end. Ok (cut_of load cut.0)

abbrev behind_count : List ℕ → ℕ → ℕ × List ℕ → Result CutFileSpec FileFault
behind_count bytes load n = within (nat_le 1 n.0 && nat_le n.0 max_fragments) n >>= λ m. repeat_at file_length_at m.0 m.1 >>= behind_lengths bytes load

abbrev behind_load : List ℕ → ℕ × List ℕ → Result CutFileSpec FileFault
behind_load bytes load = from_wire (number_at 4 load.1) >>= behind_count bytes load.0

again : (bytes behind : List ℕ) (load n : ℕ × List ℕ) (cut seal : List ℕ × List ℕ) (end : List ℕ) → number_at 8 behind ≡ Ok load → number_at 4 load.1 ≡ Ok n → (nat_le 1 n.0 && nat_le n.0 max_fragments) ≡ true → repeat_at length_at n.0 n.1 ≡ Ok cut
    → bytes_at 32 cut.1 ≡ Ok seal → sealed_end bytes seal.0 seal.1 ≡ Ok end → cut_at bytes behind ≡ Ok (cut_of load.0 cut.0, seal.1)
again bytes behind load n cut seal end one two three four five six = rw (one, two, three, four, five, six) refl

read_same : (bytes : List ℕ) (f : CutFileSpec) → read_cut_file bytes ≡ Ok f → (rest : List ℕ) × (cut_at bytes (drop 4 bytes) ≡ Ok (f, rest))
unfolding read_cut_file
read_same bytes f e =
    let m = read_ok (behind_magic cut_magic bytes) (λ rest. from_wire (number_at 8 rest) >>= behind_load bytes) f e in
    let a = read_ok (number_at 8 m.0) (behind_load bytes) f m.2 in
    let n = read_ok (number_at 4 a.0.1) (behind_count bytes a.0.0) f a.2 in
    let w = passed (nat_le 1 n.0.0 && nat_le n.0.0 max_fragments) refusal.Limit n.0 (λ m. repeat_at file_length_at m.0 m.1 >>= behind_lengths bytes a.0.0) f n.2 in
    let c = bind_ok (repeat_at file_length_at n.0.0 n.0.1) (behind_lengths bytes a.0.0) f w.1 in
    let s = read_ok (bytes_at 32 c.0.1) (λ seal. from_wire (sealed_end bytes seal.0 seal.1) >>= λ end. Ok (cut_of a.0.0 c.0.0)) f c.2 in
    let d = read_ok (sealed_end bytes s.0.0 s.0.1) (λ end. Ok (cut_of a.0.0 c.0.0)) f s.2 in
    let made : cut_of a.0.0 c.0.0 ≡ f = ok_is (cut_of a.0.0 c.0.0) f d.2 in
    let behind : cut_at bytes m.0 ≡ Ok (cut_of a.0.0 c.0.0, s.0.1) =
    again bytes m.0 a.0 n.0 c.0 s.0 d.0 a.1 n.1 w.0 (lengths_same n.0.0 n.0.1 c.0 c.1) s.1 d.1 in
    (s.0.1, subst (λ b. cut_at bytes b ≡ Ok (f, s.0.1)) (magic_behind bytes m.0 m.1) (behind ∙ ap (λ g. Ok (g, s.0.1)) made))

-- what is read of a file's bytes is what they are the file of
pub one_cut_read : (bytes : List ℕ) (f read : CutFileSpec) (rest : List ℕ) → IsCutFileOf bytes f → cut_at bytes (drop 4 bytes) ≡ Ok (read, rest) → read ≡ f
one_cut_read bytes f read rest is there =
    let (behind, same) = read_same bytes f (cut_again bytes f is) in
    ap (λ (p : CutFileSpec × List ℕ). p.0) (ok_is (read, rest) (f, behind) (sym there ∙ same))
