-- Names are ASCII, and so UTF-8.
use Rattle.std.proofs.Common.{◌≡◌, ℕ, ◌<◌, true, List, [], ◌∷◌, arith}
use Rattle.std.proofs.lemmas.Bool.{and_parts}
use Rattle.std.proofs.lemmas.Bool.Decides.{nat_tests}
use Rattle.std.proofs.lemmas.Str.Ascii.{IsAscii-nil, IsAscii-cons}
use Rattle.std.specs.List.{list_all}
use Rattle.std.specs.Str.{IsAscii}
use Rattle.meaning.specs.Catalog.{begins_name, continues_name, has_name_form, is_name}

begins_name-ascii : (b : ℕ) → begins_name b ≡ true → b < 128
begins_name-ascii b h = grind (arith, nat_tests)

continues_name-ascii : (b : ℕ) → continues_name b ≡ true → b < 128
continues_name-ascii b h = grind (arith, nat_tests)

all_continue-ascii : (bs : List ℕ) → list_all continues_name bs ≡ true → IsAscii bs
all_continue-ascii [] h = IsAscii-nil
all_continue-ascii (b ∷ bs) h =
    let parts = and_parts _ _ h in
    IsAscii-cons b bs (continues_name-ascii b parts.0) (all_continue-ascii bs parts.1)

has_name_form-ascii : (bs : List ℕ) → has_name_form bs ≡ true → IsAscii bs
has_name_form-ascii [] h = IsAscii-nil
has_name_form-ascii (b ∷ bs) h =
    let parts = and_parts _ _ h in
    IsAscii-cons b bs (begins_name-ascii b parts.0) (all_continue-ascii bs parts.1)

pub is_name-ascii : (bs : List ℕ) → is_name bs ≡ true → IsAscii bs
is_name-ascii bs h = let parts = and_parts _ _ h in has_name_form-ascii bs parts.0
