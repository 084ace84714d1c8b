-- What was said of the dimensions, and of the fact in front of them.
use Rattle.std.proofs.Common.{◌≡◌, ◌∙◌, List, [], ◌∷◌, ◌++◌, Ok, ap, append-nil, append_assoc, inl, inr, refl, subst, sym, ℕ}
use Rattle.std.specs.Prelude.{Err, IfOk, Option, Result}
use Rattle.std.specs.Io.KnownBytes.{Appends}
use Rattle.std.proofs.KnownBytes.{Appends-nil, Appends-trans}
use Rattle.meaning.specs.declared.catalog.Catalog.{Catalog}
use Rattle.meaning.specs.declared.catalog.CatalogFault.{CatalogFault}
use Rattle.meaning.specs.declared.catalog.Dimension.{Dimension}
use Rattle.folders.specs.Folder.{Holds, csv_path}
use Rattle.init.specs.declared.listing.CsvFile.{CsvFile}
use Rattle.init.specs.Guessed.{IsGuess}
use Rattle.init.specs.Guessing.{IsGuessRefused, IsGuessable, IsUnreported}
use Rattle.init.specs.Refusing.{IsAskedFor}
use Rattle.init.specs.declared.fault.InitFault.{InitFault}
use Rattle.init.specs.Saying.{AddsNotes, AreKeysOf, AreSaid, SaysTables, SaysDimensions, dimension_line, fact_line, reason_of}

pub said_more : (holds : Holds) (folder : List ℕ) (dims : List Dimension) (text : List ℕ) (d : Dimension) (others : List ℕ) → AreSaid holds folder dims text → AreKeysOf holds (csv_path folder d.table.name) d others → AreSaid holds folder (dims ++ d ∷ []) (text ++ dimension_line d others)
said_more holds folder [] text d others said keys = (others, [], keys, refl, ap (λ t. t ++ dimension_line d others) said ∙ sym (append-nil (dimension_line d others)))
said_more holds folder (c ∷ dims) text d others (first, behind, keys_of_first, rest, is) keys =
    let line = dimension_line d others in
    (first, behind ++ line, keys_of_first, said_more holds folder dims behind d others rest keys, ap (λ t. t ++ line) is ∙ append_assoc (dimension_line c first) behind line)

same_ok : {X E : Type 0} (x y : X) → (let r : Result X E = Ok x in r) ≡ Ok y → x ≡ y
same_ok x y e = cc

-- the fact that the text declares is the one that was said
pub choices_said : (holds : Holds) (folder : List ℕ) (files : List CsvFile) (asked : Option (List ℕ)) (fact text : List ℕ) (before between after : Option (List ℕ)) → IsGuess holds folder files fact text → Appends before between (fact_line (reason_of asked) fact)
    → SaysDimensions holds folder text between after → SaysTables holds folder asked text before after
choices_said holds folder files asked fact text before between after (table, named, shown, (declared, read, is, dims)) first (catalog, again, said, are, more) =
    let same : declared ≡ catalog = same_ok {E = CatalogFault} declared catalog (sym read ∙ again) in
    let name : fact ≡ catalog.fact.name = sym named ∙ ap (λ t. t.name) (sym is) ∙ ap (λ (c : Catalog). c.fact.name) same in
    let line = subst (λ n. Appends before between (fact_line (reason_of asked) n)) name first in
    (catalog, again, said, are, Appends-trans before between after (fact_line (reason_of asked) catalog.fact.name) said line more)

pub said_of : {X E : Type 0} {P Q R : X → Type 0} (r : Result X E) → ((x : X) → P x → Q x → R x) → IfOk r P → IfOk r Q → IfOk r R
said_of (Ok x) together one two = together x one two
said_of (Err e) together one two = tt

-- ---- notes

-- where notes can't be made, no catalogue is
pub unreported_guess : (holds : Holds) (lists : List ℕ → List CsvFile → Type 0) (hides : List ℕ → Type 0) (folder : List ℕ) (asked : Option (List ℕ)) (text : List ℕ) (e : InitFault) → IsGuessable holds lists folder asked text → IsUnreported e
    → IsGuessRefused holds lists hides folder asked e
unreported_guess holds lists hides folder asked text e made (inl is) = subst (IsGuessRefused holds lists hides folder asked) (sym is) (inr (made.files, made.listed, inl tt))
unreported_guess holds lists hides folder asked text e made (inr is) = subst (IsGuessRefused holds lists hides folder asked) (sym is) (inr (made.files, made.listed, inl tt))

pub unreported_asked : (asks : List ℕ → Type 0) (e : InitFault) → IsUnreported e → IsAskedFor asks e
unreported_asked asks e (inl is) = subst (IsAskedFor asks) (sym is) tt
unreported_asked asks e (inr is) = subst (IsAskedFor asks) (sym is) tt

pub note_said : (a b : Option (List ℕ)) (text : List ℕ) → Appends a b text → AddsNotes a b
note_said a b text said = (text, said)

pub notes_none : (a : Option (List ℕ)) → AddsNotes a a
notes_none a = ([], Appends-nil a)

pub notes_more : (a b c : Option (List ℕ)) → AddsNotes a b → AddsNotes b c → AddsNotes a c
notes_more a b c (one, first) (two, second) = (one ++ two, Appends-trans a b c one two first second)
