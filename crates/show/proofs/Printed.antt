-- What is printed of a file that has no fault.
use Rattle.std.proofs.Common.{◌≡◌, Bool, false, true, ℕ, ◌+◌, List, [], ◌++◌, length, drop, subst, ap, ◌∙◌}
use Rattle.std.specs.Prelude.{Err, IfOk, IsOk, None, Ok, OnOk, Option, Result, Some}
use Rattle.std.specs.Io.KnownBytes.{Appends}
use Rattle.show.specs.declared.file_kind.FileKind.{FileKind}
use Rattle.show.specs.declared.file_kind.FileKind.TheVariants as kind
use Rattle.fragment_file.specs.CutFile.{CutFileSpec, IsCutFileOf}
use Rattle.fragment_file.specs.Fragment.{FragmentSpec, IsFileOf}
use Rattle.table_text.specs.CutText.{cut_at, cut_text}
use Rattle.show.specs.Rows.{rows_text}
use Rattle.show.specs.Shown.{AreRowsOf, IsPrinted, IsRead, IsTaken, IsText, PrintsRead, detail_of, front_of, kind_of}
use Rattle.table_text.specs.TableText.{TableLayout, fragment_of, table_at, table_text}
use Rattle.show.specs.declared.showing.ShowOptions.{ShowOptions}
use Rattle.answer_fields.specs.declared.format.Format.{Format}
use Rattle.answer_fields.specs.declared.fault.DecodeFault.{DecodeFault}
use Rattle.answer_text.specs.Journals.{journal_at, journal_text}
use Rattle.answer_text.specs.Reading.{answer_at, state_at}
use Rattle.answer_text.specs.StateTexts.{held_state_text}
use Rattle.answer_text.specs.Texts.{answer_text}
use Rattle.wire.proofs.Numbers.{IsBytes}
use Rattle.wire.specs.Reading.{Read}
use Rattle.answer_text.proofs.Spelled.{answer_spelled}
use Rattle.show.proofs.Begins.{begins_as_answer, begins_as_state}
use Rattle.show.proofs.CutRead.{one_cut_read}
use Rattle.show.proofs.StateSpelled.{state_spelled}
use Rattle.show.proofs.TableRead.{one_table_read, table_of_file}

pub ended_so : {E : Type 0} {P : Type 0} (r : Result (Unit {0}) E) → IsOk r → OnOk r P → P
ended_so (Ok done) ok said = said
ended_so (Err e) ok said = let bad : false ≡ true = ok in absurd (cc bad)

pub if_whole : {E : Type 0} {P Q : Type 0} (r : Result Bool E) → (P → Q) → IfOk r (λ whole. whole ≡ true → P) → IfOk r (λ whole. whole ≡ true → Q)
if_whole (Ok whole) more said = λ is. more (said is)
if_whole (Err e) more said = tt

module _ (bytes : List ℕ) (front text : List ℕ) (before after : Option (List ℕ)) (appends : Appends before after (front ++ text)) where
  spelled_so : (format : Format) (options : ShowOptions) → IsBytes bytes → front ≡ [] → kind_of bytes ≡ Some (kind.Answer format) → IsRead (answer_at format) (answer_text (detail_of options) (length bytes)) bytes text
      → IsPrinted (kind.Answer format) bytes options options.rows before after
  spelled_so format options ok none begins (l, rest, read, is) =
      let begun = begins_as_answer bytes format begins in
      let spelled = answer_spelled bytes format (drop 4 bytes) l rest ok begun read in
      (l, spelled.0, spelled.1, subst (λ t. Appends before after t) (ap (λ f. f ++ text) none ∙ is) appends)

  state_so : (format : Format) (options : ShowOptions) → IsBytes bytes → front ≡ [] → kind_of bytes ≡ Some (kind.State format) → IsRead (state_at format) (held_state_text (detail_of options) (length bytes)) bytes text
      → IsPrinted (kind.State format) bytes options options.rows before after
  state_so format options ok none begins (l, rest, read, is) =
      let spelled = state_spelled bytes format (drop 4 bytes) l rest ok (begins_as_state bytes format begins) read in
      (l, spelled.0, spelled.1, subst (λ t. Appends before after t) (ap (λ f. f ++ text) none ∙ is) appends)

  read_so : {Y : Type 0} (read : List ℕ → List ℕ → Read DecodeFault Y) (text_of : Y → List ℕ) → front ≡ [] → IsRead read text_of bytes text → PrintsRead read text_of bytes before after
  read_so read text_of none (y, rest, there, is) = (y, rest, there, subst (λ t. Appends before after t) (ap (λ f. f ++ text) none ∙ is) appends)

  of_cut : front ≡ front_of kind.Cut (length bytes) → IsRead cut_at cut_text bytes text → ((f : CutFileSpec) × IsCutFileOf bytes f) → (f : CutFileSpec) × IsCutFileOf bytes f × Appends before after (front_of kind.Cut (length bytes) ++ cut_text f)
  of_cut is (read, rest, there, more) (f, file) =
      let same : text ≡ cut_text f = more ∙ ap cut_text (one_cut_read bytes f read rest file there) in
      (f, file, subst (λ t. Appends before after t) (λ i. is i ++ same i) appends)

  of_table : front ≡ front_of kind.Table (length bytes) → IsRead table_at (table_text 0 (length bytes)) bytes text → (f : FragmentSpec) → IsFileOf bytes f
      → (t : TableLayout) × (rest : List ℕ) × (table_at bytes (drop 4 bytes) ≡ Ok (t, rest)) × IsFileOf bytes (fragment_of t) × Appends before after (front_of kind.Table (length bytes) ++ table_text 0 (length bytes) t)
  of_table is (t, rest, there, more) f file = (t, rest, there, one_table_read bytes f t rest file there, subst (λ x. Appends before after x) (λ i. is i ++ more i) appends)

  of_rows : (most : ℕ) → front ≡ [] → AreRowsOf bytes most text → (f : FragmentSpec) → IsFileOf bytes f
      → (t : TableLayout) × (rest : List ℕ) × (table_at bytes (drop 4 bytes) ≡ Ok (t, rest)) × IsFileOf bytes (fragment_of t) × Appends before after (rows_text most t)
  of_rows most none rows f file =
      let (t, rest, there, same) = table_of_file bytes f file in
      (t, rest, there, one_table_read bytes f t rest file there, subst (λ x. Appends before after x) (ap (λ f. f ++ text) none ∙ rows t rest there) appends)

  pub printed : (kind : FileKind) (options : ShowOptions) (most : Option ℕ) → IsBytes bytes → kind_of bytes ≡ Some kind → IsText kind bytes options most front text → IsTaken kind bytes → IsPrinted kind bytes options most before after
  printed kind.Table options None ok begins (is, parts) (f, file) = of_table is parts f file
  printed kind.Table options (Some most) ok begins (none, rows) (f, file) = of_rows most none rows f file
  printed kind.Cut options most ok begins (is, parts) taken = of_cut is parts taken
  printed (kind.Answer format) options most ok begins (is, parts) taken = spelled_so format options ok is begins parts
  printed (kind.State format) options most ok begins (is, parts) taken = state_so format options ok is begins parts
  printed kind.Journal options most ok begins (is, parts) taken = read_so journal_at (journal_text (detail_of options) 0 (length bytes)) is parts
