-- Bytes that are put one after the other.
use Rattle.std.proofs.Common.{◌≡◌, List, ℕ, ◌<◌, ◌+◌, [], ◌∷◌, ◌++◌, length, get_or, take, subst, ap, ◌∙◌, append-nil, Option, Result, Ok, Err, OnOk}
use Rattle.std.specs.Prelude.{flat_map}
use Rattle.std.proofs.lemmas.List.{take_more}
use Rattle.std.proofs.lemmas.Grind.{flat_map-append}
use Rattle.std.specs.Io.KnownBytes.{Appends}
use Rattle.wire.proofs.Written.{puts_both, puts_sealed}
use Rattle.sha2.specs.declared.Sha256.{Sha256}
use Rattle.sha2.specs.Hashers.{Holds256}
use Rattle.wire.specs.Bytes.{number_bytes, seal_of, sealed}
use Rattle.fragment_file.specs.CutFile.{cut_bytes, cut_magic}
use Rattle.wire.specs.Writing.{Puts}

pub on_ok : {X E : Type 0} {A B : Type 0} (r : Result X E) → OnOk r A → (A → B) → OnOk r B
on_ok (Ok x) p f = f p
on_ok (Err e) p f = tt

pub cut_written : (a b c d e f : Option (List ℕ)) (h i j k l : Sha256) (load : ℕ) (cut lengths : List ℕ) → lengths ≡ cut → Holds256 h []
    → Puts a b h i cut_magic → Puts b c i j (number_bytes 8 load) → Puts c d j k (number_bytes 4 (length lengths))
    → Puts d e k l (flat_map (number_bytes 4) lengths) → ((m : List ℕ) → Holds256 l m → Appends e f (seal_of m))
    → Appends a f (sealed (cut_bytes (record { load = load; cut = cut })))
unfolding cut_bytes
cut_written a b c d e f h i j k l load cut lengths same empty magic loaded counted listed seal =
    let front = puts_both a b c h i j cut_magic (number_bytes 8 load) magic loaded in
    let counts = puts_both a c d h j k (cut_magic ++ number_bytes 8 load) (number_bytes 4 (length lengths)) front counted in
    let all = puts_both a d e h k l (cut_magic ++ number_bytes 8 load ++ number_bytes 4 (length lengths)) (flat_map (number_bytes 4) lengths) counts listed in
    let bytes = λ (ns : List ℕ). cut_magic ++ number_bytes 8 load ++ number_bytes 4 (length ns) ++ flat_map (number_bytes 4) ns in
    subst (λ (ns : List ℕ). Appends a f (sealed (bytes ns))) same (puts_sealed a e f h l (bytes lengths) empty all seal)

-- what the first elements give, and what one more gives
pub flat_map_next : {X Y : Type 0} (f : X → List Y) (xs : List X) (i : ℕ) (d : X) → i < length xs
    → flat_map f (take (i + 1) xs) ≡ flat_map f (take i xs) ++ f (get_or xs i d)
flat_map_next f xs i d below =
    ap (flat_map f) (take_more xs i d below) ∙ flat_map-append f (take i xs) (get_or xs i d ∷ []) ∙ ap (λ ys. flat_map f (take i xs) ++ ys) (append-nil (f (get_or xs i d)))
