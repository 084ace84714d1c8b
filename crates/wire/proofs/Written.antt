-- Bytes that go one after the other to a writer and to a hasher.
use Rattle.std.proofs.Common.{◌≡◌, List, ℕ, [], ◌++◌, subst, sym, append_assoc, append-nil, Option}
use Rattle.std.proofs.KnownBytes.{Appends-trans, Appends-nil}
use Rattle.std.specs.Io.KnownBytes.{Appends}
use Rattle.sha2.specs.declared.Sha256.{Sha256}
use Rattle.sha2.specs.Hashers.{Holds256}
use Rattle.wire.specs.Bytes.{seal_of, sealed}
use Rattle.wire.specs.Writing.{Hashes, Puts}

pub hashes_nothing : (h : Sha256) → Hashes h h []
unfolding Hashes
hashes_nothing h m held = subst (Holds256 h) (sym (append-nil m)) held

pub hashes_both : (h i j : Sha256) (xs ys : List ℕ) → Hashes h i xs → Hashes i j ys → Hashes h j (xs ++ ys)
unfolding Hashes
hashes_both h i j xs ys p q m held = subst (Holds256 j) (append_assoc m xs ys) (q (m ++ xs) (p m held))

pub hashes_message : (h i : Sha256) (xs : List ℕ) → Hashes h i xs → Holds256 h [] → Holds256 i xs
unfolding Hashes
hashes_message h i xs p held = p [] held

pub puts_nothing : (a : Option (List ℕ)) (h : Sha256) → Puts a a h h []
puts_nothing a h = record { written = Appends-nil a; hashed = hashes_nothing h }

pub puts_both : (a b c : Option (List ℕ)) (h i j : Sha256) (xs ys : List ℕ) → Puts a b h i xs → Puts b c i j ys → Puts a c h j (xs ++ ys)
puts_both a b c h i j xs ys p q =
    record { written = Appends-trans a b c xs ys p.written q.written; hashed = hashes_both h i j xs ys p.hashed q.hashed }

-- what was put, and its seal behind it
pub puts_sealed : (a b c : Option (List ℕ)) (h i : Sha256) (xs : List ℕ) → Holds256 h [] → Puts a b h i xs
    → ((m : List ℕ) → Holds256 i m → Appends b c (seal_of m)) → Appends a c (sealed xs)
puts_sealed a b c h i xs empty p seal = Appends-trans a b c xs (seal_of xs) p.written (seal xs (hashes_message h i xs p.hashed empty))

pub puts_more : (a b c : Option (List ℕ)) (h i j : Sha256) (xs ys zs : List ℕ) → Puts a b h i xs → Puts b c i j ys → zs ≡ xs ++ ys → Puts a c h j zs
puts_more a b c h i j xs ys zs p q e = subst (Puts a c h j) (sym e) (puts_both a b c h i j xs ys p q)
