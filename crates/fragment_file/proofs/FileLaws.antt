-- Whole files: what is read is spelled so, and what is spelled so is read.
use Rattle.std.proofs.Common.{◌≡◌, ℕ, List, ◌++◌, length, zip, Ok, refl, ap, subst, ◌∙◌, append_assoc}
use Rattle.std.specs.List.{flat_map}
use Rattle.blocks.specs.Block.{Block}
use Rattle.fragment_file.specs.declared.header.Header.{Header}
use Rattle.wire.specs.Reading.{◌>>=◌, bytes_at, behind_magic, sealed_end}
use Rattle.fragment_file.specs.Fragment.{FragmentSpec, IsFileOf, group_sizes, group_bytes, header_bytes, groups_bytes, fragment_magic, fragment_bytes}
use Rattle.wire.specs.Bytes.{seal_of}
use Rattle.fragment_file.specs.FragmentReading.{header_at, groups_at, read_fragment}
use Rattle.wire.proofs.Numbers.{bind_ok, ok_is, IsBytes, Takes-then, bytes_take}
use Rattle.wire.proofs.Seals.{magic_takes, magic_again, seal_takes, seal_again, seal_left}
use Rattle.fragment_file.proofs.HeaderLaws.{header_takes, header_again}
use Rattle.fragment_file.proofs.GroupLaws.{groups_takes, groups_again, sizes_few}
use Rattle.fragment_file.proofs.FromWire.{read_ok}
use Rattle.fragment_file.specs.Fault.{from_wire}

-- ---- fragment files

abbrev done : Header → List (List Block) → FragmentSpec
done header groups = record { header = header; groups = groups }

pub file_takes : (bytes : List ℕ) (f : FragmentSpec) → IsBytes bytes → read_fragment bytes ≡ Ok f → IsFileOf bytes f
unfolding read_fragment fragment_bytes groups_bytes
file_takes bytes f fits e =
    let a = read_ok (behind_magic fragment_magic bytes) (λ rest. header_at rest >>= λ header. groups_at 0 header.0.columns (group_sizes header.0.rows) header.1 >>= λ groups. from_wire (bytes_at 32 groups.1) >>= λ seal. from_wire (sealed_end bytes seal.0 seal.1) >>= λ end. Ok (done header.0 groups.0)) f e in
    let h = bind_ok (header_at a.0) (λ header. groups_at 0 header.0.columns (group_sizes header.0.rows) header.1 >>= λ groups. from_wire (bytes_at 32 groups.1) >>= λ seal. from_wire (sealed_end bytes seal.0 seal.1) >>= λ end. Ok (done header.0 groups.0)) f a.2 in
    let g = bind_ok (groups_at 0 h.0.0.columns (group_sizes h.0.0.rows) h.0.1) (λ groups. from_wire (bytes_at 32 groups.1) >>= λ seal. from_wire (sealed_end bytes seal.0 seal.1) >>= λ end. Ok (done h.0.0 groups.0)) f h.2 in
    let s = read_ok (bytes_at 32 g.0.1) (λ seal. from_wire (sealed_end bytes seal.0 seal.1) >>= λ end. Ok (done h.0.0 g.0.0)) f g.2 in
    let d = read_ok (sealed_end bytes s.0.0 s.0.1) (λ end. Ok (done h.0.0 g.0.0)) f s.2 in
    let magic = magic_takes fragment_magic bytes a.0 fits a.1 in
    let header = header_takes a.0 h.0 magic.rest_fits h.1 in
    let groups = groups_takes 0 h.0.0.columns (group_sizes h.0.0.rows) h.0.1 g.0 header.0.rest_fits g.1 in
    let seal = bytes_take 32 g.0.1 s.0.0 s.0.1 groups.0.rest_fits s.1 in
    let spelled_groups = flat_map group_bytes (zip (group_sizes h.0.0.rows) g.0.0) in
    let one = Takes-then bytes fragment_magic a.0 (header_bytes h.0.0) h.0.1 magic header.0 in
    let two = Takes-then bytes (fragment_magic ++ header_bytes h.0.0) h.0.1 spelled_groups g.0.1 one groups.0 in
    let front = fragment_magic ++ header_bytes h.0.0 ++ spelled_groups in
    let parts : bytes ≡ front ++ (s.0.0 ++ s.0.1) = two.parts ∙ ap (λ (t : List ℕ). front ++ t) seal.0.parts in
    let ended = subst (λ (bs : List ℕ). sealed_end bs s.0.0 s.0.1 ≡ Ok d.0) parts d.1 in
    let whole : bytes ≡ front ++ seal_of front = parts ∙ seal_takes front s.0.0 s.0.1 d.0 seal.1 ended in
    let file : IsFileOf bytes (done h.0.0 g.0.0) = record { spelled = whole; sound = record { header = header.1; groups = groups.1 } } in
    subst (λ (q : FragmentSpec). IsFileOf bytes q) (ok_is (done h.0.0 g.0.0) f d.2) file

four : length fragment_magic ≡ 4
unfolding fragment_magic
four = refl

pub file_again : (bytes : List ℕ) (f : FragmentSpec) → IsFileOf bytes f → read_fragment bytes ≡ Ok f
unfolding read_fragment fragment_bytes groups_bytes
file_again bytes f is =
    let header = header_bytes f.header in
    let groups = flat_map group_bytes (zip (group_sizes f.header.rows) f.groups) in
    let front = fragment_magic ++ header ++ groups in
    let seal = seal_of front in
    let split : front ++ seal ≡ fragment_magic ++ (header ++ (groups ++ seal)) = append_assoc (fragment_magic ++ header) groups seal ∙ append_assoc fragment_magic header (groups ++ seal) in
    let magic : behind_magic fragment_magic (front ++ seal) ≡ Ok (header ++ (groups ++ seal)) = ap (behind_magic fragment_magic) split ∙ magic_again fragment_magic (header ++ (groups ++ seal)) four in
    ap read_fragment is.spelled
    ∙ rw (
      magic,
      header_again f.header (groups ++ seal) is.sound.header,
      groups_again 0 f.header.columns (group_sizes f.header.rows) f.groups seal (sizes_few f.header.rows) is.sound.groups,
      seal_left front,
      seal_again front,
    ) refl
