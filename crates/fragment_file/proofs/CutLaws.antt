-- Cut files: what is read is spelled so and a cut, and what is spelled so is read.
use Rattle.std.proofs.Common.{◌≡◌, ℕ, ◌≤◌, true, false, ◌&&◌, List, [], ◌∷◌, ◌++◌, length, Result, Ok, refl, sym, ap, subst, ◌∙◌, append_assoc, arith}
use Rattle.std.specs.Prelude.{nat_le, nat_lt}
use Rattle.std.specs.List.{flat_map, list_all, list_any, AllByRecursion}
use Rattle.std.proofs.lemmas.Bool.{and_parts, leb-true, le-leb, le-ltb, ne_eqb}
use Rattle.std.proofs.lemmas.List.Elements.{All-from_recursion, recursion_from_All}
use Rattle.meaning.specs.Cut.{IsCut, cut_of}
use Rattle.meaning.specs.Limits.{max_fragments, max_rows}
use Rattle.meaning.proofs.Tests.{both}
use Rattle.wire.proofs.Parts.{IsSpelled, IsReadAgain, repeat_takes, repeat_again, repeat_all}
use Rattle.fragment_file.specs.declared.fault.FileFault.{FileFault}
use Rattle.fragment_file.specs.declared.fault.FileFault.TheVariants as refusal
use Rattle.wire.specs.Reading.{◌>>=◌, bytes_at, number_at, repeat_at, behind_magic, sealed_end}
use Rattle.wire.specs.Bytes.{number_bytes, seal_of}
use Rattle.fragment_file.specs.FragmentReading.{within}
use Rattle.fragment_file.specs.CutFile.{CutFileSpec, IsCutFileOf, cut_magic, cut_bytes, length_at, read_cut_file}
use Rattle.wire.proofs.Numbers.{bind_ok, test_passed, ok_is, IsBytes, Takes, Takes-then, bytes_take, number_takes, number_again}
use Rattle.fragment_file.proofs.HeaderLaws.{passed}
use Rattle.wire.proofs.Seals.{magic_takes, magic_again, seal_takes, seal_again, seal_left}
use Rattle.fragment_file.proofs.FromWire.{read_ok}
use Rattle.fragment_file.specs.Fault.{from_wire}

-- ---- lengths

abbrev IsShort : ℕ → Type 0
IsShort n = n ≤ max_rows

length_takes : IsSpelled length_at (number_bytes 4)
unfolding length_at
length_takes bytes p fits e =
    let a = read_ok (number_at 4 bytes) (λ n. within (nat_le n.0 max_rows) n) p e in
    let kept = test_passed (nat_le a.0.0 max_rows) refusal.Limit (Ok a.0) p a.2 in
    subst (λ (q : ℕ × List ℕ). Takes bytes (number_bytes 4 q.0) q.1) (ok_is a.0 p kept.1) (number_takes 4 bytes a.0.0 a.0.1 fits a.1).0

length_short : (bytes : List ℕ) (p : ℕ × List ℕ) → length_at bytes ≡ Ok p → nat_le p.0 max_rows ≡ true
unfolding length_at
length_short bytes p e =
    let a = read_ok (number_at 4 bytes) (λ n. within (nat_le n.0 max_rows) n) p e in
    let kept = test_passed (nat_le a.0.0 max_rows) refusal.Limit (Ok a.0) p a.2 in
    subst (λ (q : ℕ × List ℕ). nat_le q.0 max_rows ≡ true) (ok_is a.0 p kept.1) kept.0

all_short : (xs : List ℕ) → list_all (λ n. nat_le n max_rows) xs ≡ true → AllByRecursion IsShort xs
all_short [] e = tt
all_short (x ∷ xs) e =
    let h = and_parts (nat_le x max_rows) (list_all (λ n. nat_le n max_rows) xs) e in
    (leb-true _ _ h.0, all_short xs h.1)

lengths_takes : (n : ℕ) (bytes : List ℕ) (p : List ℕ × List ℕ) → IsBytes bytes → repeat_at length_at n bytes ≡ Ok p → Takes bytes (flat_map (number_bytes 4) p.0) p.1 × (length p.0 ≡ n) × AllByRecursion IsShort p.0
lengths_takes n bytes p fits e =
    let taken = repeat_takes length_at (number_bytes 4) length_takes n bytes p fits e in
    let short = repeat_all length_at (λ x. nat_le x max_rows) length_short n bytes p e in
    (taken.0, taken.1, all_short p.0 short.1)

length_again : IsReadAgain length_at (number_bytes 4) IsShort
unfolding length_at
length_again x rest short = rw (number_again 4 x rest (omega (arith, short)), le-leb x max_rows short) refl

lengths_again : (xs rest : List ℕ) → AllByRecursion IsShort xs → repeat_at length_at (length xs) (flat_map (number_bytes 4) xs ++ rest) ≡ Ok (xs, rest)
lengths_again xs rest short = repeat_again length_at (number_bytes 4) IsShort length_again (length xs) xs rest refl short

-- ---- cuts

pub cut_from : (n : ℕ) (bytes : List ℕ) (p : List ℕ × List ℕ) → IsBytes bytes → (nat_le 1 n && nat_le n max_fragments) ≡ true → repeat_at length_at n bytes ≡ Ok p → IsCut p.0
cut_from n bytes p fits kept e =
    let read = lengths_takes n bytes p fits e in
    let limits = and_parts (nat_le 1 n) (nat_le n max_fragments) kept in
    let some = leb-true _ _ limits.0 in
    let few = leb-true _ _ limits.1 in
    let len = read.1 in
    record { some = omega (arith, some, len); few = omega (arith, few, len); short = All-from_recursion IsShort p.0 read.2 }

none_long : (xs : List ℕ) → AllByRecursion IsShort xs → list_any (λ n. nat_lt max_rows n) xs ≡ false
none_long [] short = refl
none_long (x ∷ xs) short = rw (le-ltb max_rows x short.0, none_long xs short.1) refl

-- the lengths of a cut are taken for one
pub cut_taken : (xs : List ℕ) → IsCut xs → cut_of xs ≡ Ok xs
cut_taken xs is =
    let some = is.some in
    let none = none_long xs (recursion_from_All IsShort xs is.short) in
    rw (ne_eqb (length xs) 0 (λ h. omega (arith, h, some)), le-ltb max_fragments (length xs) is.few, none) refl

abbrev done : ℕ → List ℕ → CutFileSpec
done load cut = record { load = load; cut = cut }

abbrev behind_lengths : List ℕ → ℕ → List ℕ × List ℕ → Result CutFileSpec FileFault
behind_lengths bytes load cut = from_wire (bytes_at 32 cut.1) >>= λ seal. from_wire (sealed_end bytes seal.0 seal.1) >>= λ end. Ok (done load cut.0)

abbrev behind_kept : List ℕ → ℕ → ℕ × List ℕ → Result CutFileSpec FileFault
behind_kept bytes load n = repeat_at length_at n.0 n.1 >>= behind_lengths bytes load

abbrev behind_count : List ℕ → ℕ → ℕ × List ℕ → Result CutFileSpec FileFault
behind_count bytes load n = within (nat_le 1 n.0 && nat_le n.0 max_fragments) n >>= behind_kept bytes load

abbrev behind_load : List ℕ → ℕ × List ℕ → Result CutFileSpec FileFault
behind_load bytes load = from_wire (number_at 4 load.1) >>= behind_count bytes load.0

pub cut_takes : (bytes : List ℕ) (f : CutFileSpec) → IsBytes bytes → read_cut_file bytes ≡ Ok f → IsCutFileOf bytes f
unfolding read_cut_file cut_bytes
cut_takes bytes f fits e =
    let m = read_ok (behind_magic cut_magic bytes) (λ rest. from_wire (number_at 8 rest) >>= behind_load bytes) f e in
    let a = read_ok (number_at 8 m.0) (behind_load bytes) f m.2 in
    let n = read_ok (number_at 4 a.0.1) (behind_count bytes a.0.0) f a.2 in
    let w = passed (nat_le 1 n.0.0 && nat_le n.0.0 max_fragments) refusal.Limit n.0 (behind_kept bytes a.0.0) f n.2 in
    let c = bind_ok (repeat_at length_at n.0.0 n.0.1) (behind_lengths bytes a.0.0) f w.1 in
    let s = read_ok (bytes_at 32 c.0.1) (λ seal. from_wire (sealed_end bytes seal.0 seal.1) >>= λ end. Ok (done a.0.0 c.0.0)) f c.2 in
    let d = read_ok (sealed_end bytes s.0.0 s.0.1) (λ end. Ok (done a.0.0 c.0.0)) f s.2 in
    let magic = magic_takes cut_magic bytes m.0 fits m.1 in
    let load = number_takes 8 m.0 a.0.0 a.0.1 magic.rest_fits a.1 in
    let count = number_takes 4 a.0.1 n.0.0 n.0.1 load.0.rest_fits n.1 in
    let lengths = lengths_takes n.0.0 n.0.1 c.0 count.0.rest_fits c.1 in
    let seal = bytes_take 32 c.0.1 s.0.0 s.0.1 lengths.0.rest_fits s.1 in
    let counted : Takes a.0.1 (number_bytes 4 (length c.0.0)) n.0.1 = subst (λ (x : ℕ). Takes a.0.1 (number_bytes 4 x) n.0.1) (sym lengths.1) count.0 in
    let one = Takes-then bytes cut_magic m.0 (number_bytes 8 a.0.0) a.0.1 magic load.0 in
    let two = Takes-then bytes (cut_magic ++ number_bytes 8 a.0.0) a.0.1 (number_bytes 4 (length c.0.0)) n.0.1 one counted in
    let three = Takes-then bytes (cut_magic ++ number_bytes 8 a.0.0 ++ number_bytes 4 (length c.0.0)) n.0.1 (flat_map (number_bytes 4) c.0.0) c.0.1 two lengths.0 in
    let front = cut_magic ++ number_bytes 8 a.0.0 ++ number_bytes 4 (length c.0.0) ++ flat_map (number_bytes 4) c.0.0 in
    let parts : bytes ≡ front ++ (s.0.0 ++ s.0.1) = three.parts ∙ ap (λ (t : List ℕ). front ++ t) seal.0.parts in
    let ended = subst (λ (bs : List ℕ). sealed_end bs s.0.0 s.0.1 ≡ Ok d.0) parts d.1 in
    let whole : bytes ≡ front ++ seal_of front = parts ∙ seal_takes front s.0.0 s.0.1 d.0 seal.1 ended in
    let file : IsCutFileOf bytes (done a.0.0 c.0.0) = record { spelled = whole; load = load.1; cut = cut_from n.0.0 n.0.1 c.0 count.0.rest_fits w.0 c.1 } in
    subst (λ (q : CutFileSpec). IsCutFileOf bytes q) (ok_is (done a.0.0 c.0.0) f d.2) file

four : length cut_magic ≡ 4
unfolding cut_magic
four = refl

pub cut_again : (bytes : List ℕ) (f : CutFileSpec) → IsCutFileOf bytes f → read_cut_file bytes ≡ Ok f
unfolding read_cut_file cut_bytes
cut_again bytes f is =
    let load = number_bytes 8 f.load in
    let count = number_bytes 4 (length f.cut) in
    let cut = flat_map (number_bytes 4) f.cut in
    let front = cut_magic ++ load ++ count ++ cut in
    let seal = seal_of front in
    let few = is.cut.few in
    let kept = both _ _ (le-leb 1 (length f.cut) is.cut.some) (le-leb (length f.cut) max_fragments few) in
    let split : front ++ seal ≡ cut_magic ++ (load ++ (count ++ (cut ++ seal))) = append_assoc (cut_magic ++ load ++ count) cut seal ∙ append_assoc (cut_magic ++ load) count (cut ++ seal) ∙ append_assoc cut_magic load (count ++ (cut ++ seal)) in
    let magic : behind_magic cut_magic (front ++ seal) ≡ Ok (load ++ (count ++ (cut ++ seal))) = ap (behind_magic cut_magic) split ∙ magic_again cut_magic (load ++ (count ++ (cut ++ seal))) four in
    ap read_cut_file is.spelled
    ∙ rw (
      magic,
      number_again 8 f.load (count ++ (cut ++ seal)) is.load,
      number_again 4 (length f.cut) (cut ++ seal) (omega (arith, few)),
      kept,
      lengths_again f.cut seal (recursion_from_All IsShort f.cut is.cut.short),
      seal_left front,
      seal_again front,
    ) refl
