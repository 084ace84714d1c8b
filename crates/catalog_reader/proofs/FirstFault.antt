-- The fault that is reported is the one of the first line that has one.
use Rattle.std.proofs.Common.{◌≡◌, Option, Some, None, List, [], ◌∷◌, ◌++◌, append_assoc, refl, ap, sym, ◌∙◌}
use Rattle.std.proofs.lemmas.List.{append-nil}
use Rattle.std.specs.Option.{option_or}
use Rattle.meaning.specs.declared.catalog.CatalogFault.{CatalogFault}
use Rattle.catalog_reader.specs.declared.catalog_line.Line.{Line}
use Rattle.catalog_reader.specs.CatalogTables.{line_fault, first_line_fault, AreFaultless, IsFirstFault}
use Rattle.catalog_reader.proofs.CatalogSteps.{first_line_fault-append, first_line_fault-next}

neither : {X : Type 0} (a b : Option X) → option_or a b ≡ None → (a ≡ None) × (b ≡ None)
neither None b none = (refl, none)
neither (Some x) b none = cc

pub faultless-from_none : (lines : List Line) → first_line_fault [] lines ≡ None → AreFaultless lines
faultless-from_none lines none before line after whole =
    let split = sym (first_line_fault-append [] before (line ∷ after)) ∙ ap (first_line_fault []) (sym whole) ∙ none in
    let parts = neither (first_line_fault [] before) (first_line_fault before (line ∷ after)) split in
    let here = neither (line_fault before line) (first_line_fault (before ++ line ∷ []) after) parts.1 in
    here.0

none-behind : (front lines : List Line)
    → ((before : List Line) (line : Line) (after : List Line) → lines
    ≡ before ++ line ∷ after → line_fault (front ++ before) line ≡ None) → first_line_fault front lines ≡ None
none-behind front [] each = refl
none-behind front (line ∷ lines) each =
    let here : line_fault front line
    ≡ None = ap (λ ls. line_fault ls line) (sym (append-nil front)) ∙ each [] line lines refl in
    let later : first_line_fault (front ++ line ∷ []) lines ≡ None =
    none-behind (front ++ line ∷ []) lines (λ before next after whole.
    ap (λ ls. line_fault ls next) (append_assoc front (line ∷ []) before)
    ∙ each (line ∷ before) next after (ap (λ ls. line ∷ ls) whole)) in
    ap (λ f. option_or f (first_line_fault (front ++ line ∷ []) lines)) here ∙ later

pub none-from_faultless : (lines : List Line) → AreFaultless lines → first_line_fault [] lines ≡ None
none-from_faultless lines each = none-behind [] lines each

-- where the first fault stands
record Stands (front lines : List Line) (fault : CatalogFault) : Type 0 where
  before : List Line
  line : Line
  after : List Line
  whole : lines ≡ before ++ line ∷ after
  here : line_fault (front ++ before) line ≡ Some fault
  earlier : first_line_fault front before ≡ None

stands : (front lines : List Line) (fault : CatalogFault) → first_line_fault front lines
    ≡ Some fault → Stands front lines fault
stands front [] fault returned = cc
stands front (line ∷ lines) fault returned =
    elim (line_fault front line) as
    (λ o. line_fault front line ≡ o → option_or o (first_line_fault (front ++ line ∷ []) lines)
    ≡ Some fault → Stands front (line ∷ lines) fault) [
      | Some f ↦ λ is same. record {
        before = [];
        line = line;
        after = lines;
        whole = refl;
        here = ap (λ ls. line_fault ls line) (append-nil front) ∙ is ∙ same;
        earlier = refl;
      }
      | None ↦ λ is later.
          let rest = stands (front ++ line ∷ []) lines fault later in
          record {
            before = line ∷ rest.before;
            line = rest.line;
            after = rest.after;
            whole = ap (λ ls. line ∷ ls) rest.whole;
            here = ap (λ ls. line_fault ls rest.line) (sym (append_assoc front (line ∷ []) rest.before)) ∙ rest.here;
            earlier = ap (λ f. option_or f (first_line_fault (front ++ line ∷ []) rest.before)) is ∙ rest.earlier;
          }
    ] refl returned

pub first-from_some : (lines : List Line) (fault : CatalogFault) → first_line_fault [] lines
    ≡ Some fault → IsFirstFault lines fault
first-from_some lines fault returned =
    let s = stands [] lines fault returned in
    record {
      before = s.before;
      line = s.line;
      after = s.after;
      whole = s.whole;
      here = s.here;
      earlier =
          faultless-from_none s.before s.earlier;
    }

pub some-from_first : (lines : List Line) (fault : CatalogFault) → IsFirstFault lines fault → first_line_fault [] lines
    ≡ Some fault
some-from_first lines fault f =
    ap (first_line_fault []) f.whole
    ∙ first_line_fault-next f.before f.line f.after (none-from_faultless f.before f.earlier)
    ∙ ap (λ o. option_or o (first_line_fault (f.before ++ f.line ∷ []) f.after)) f.here
