-- What becomes of a question, from what its steps are answered or refused for.
use Rattle.std.proofs.Common.{◌≡◌, List, ℕ, Option, Result, Ok, Err, inr}
use Rattle.std.specs.Prelude.{IfErr, IfOk}
use Rattle.meaning.specs.declared.catalog.Catalog.{Catalog}
use Rattle.meaning.specs.declared.plan.Plan.{Plan}
use Rattle.catalog_reader.specs.CatalogText.{catalog_of}
use Rattle.gathering.specs.Gathering.{GatherSpec}
use Rattle.gathering.specs.declared.report.Ended.{Ended}
use Rattle.coordinator.specs.Whole.{IsAnswered}
use Rattle.planner.specs.QueryText.{IsPlanned}
use Rattle.folders.specs.Folder.{AreHeld, Holds, catalog_path}
use Rattle.folders.specs.declared.refusal.Refusal.{Refusal}
use Rattle.cli.specs.Refusing.{IsInputRefused, IsQueryRefused, IsRefusedOver, IsWholeRefused}
use Rattle.cli.specs.Running.{AreTables, IsAnsweredSo, IsWholeDone, input_over}
use Rattle.cli.specs.Status.{end_status}
use Rattle.cli.specs.declared.tables.Tables.{Tables}

module _ (holds : Holds) (folder : List ℕ) (catalog : Catalog) (query : List ℕ) (rows vector : ℕ) where
  -- the text declares the catalogue
  abbrev Declares : List ℕ → Type 0
  Declares text = catalog_of text ≡ Ok catalog

  abbrev HasPlan : Plan → Type 0
  HasPlan plan = IsPlanned catalog query (Ok plan)

  abbrev AreRead : Tables → Type 0
  AreRead tables = AreTables holds folder catalog.fact.name rows tables

  abbrev RefusedOver : List ℕ → Refusal → Type 0
  RefusedOver text e = IsRefusedOver holds folder text catalog query rows vector e

  abbrev Refused : List ℕ → Refusal → Type 0
  Refused text e = IsQueryRefused holds folder text catalog query rows vector e

  -- an answer over tables that were read
  pub answered_over : (plan : Plan) (tables : Tables) (before after : Option (List ℕ)) (result : Result Ended Refusal) → AreRead tables
      → IfOk result (λ end. (text : List ℕ) → Declares text → HasPlan plan → (gather : GatherSpec) × IsAnswered (input_over text tables query vector) before after end gather)
      → IfOk result (λ end. (text : List ℕ) → Declares text → HasPlan plan → IsAnsweredSo holds folder text catalog query rows vector before after end)
  answered_over plan tables before after (Ok end) read returned = λ text declared planned.
      let (gather, answered) = returned text declared planned in
      record { tables = tables; loaded = read; gather = gather; answered = answered }
  answered_over plan tables before after (Err e) read returned = tt

  -- a refusal over them
  pub refused_over : (plan : Plan) (tables : Tables) (result : Result Ended Refusal) → AreRead tables
      → IfErr result (λ e. (text : List ℕ) → Declares text → HasPlan plan → IsInputRefused folder (input_over text tables query vector) e)
      → IfErr result (λ e. (text : List ℕ) → Declares text → HasPlan plan → RefusedOver text e)
  refused_over plan tables (Ok end) read returned = tt
  refused_over plan tables (Err e) read returned = λ text declared planned. (tables, read, returned text declared planned)

  -- where the query has the plan
  pub answered_by : (plan : Plan) (before after : Option (List ℕ)) (result : Result Ended Refusal) → HasPlan plan
      → IfOk result (λ end. (text : List ℕ) → Declares text → HasPlan plan → IsAnsweredSo holds folder text catalog query rows vector before after end)
      → IfOk result (λ end. (text : List ℕ) → Declares text → IsAnsweredSo holds folder text catalog query rows vector before after end)
  answered_by plan before after (Ok end) planned returned = λ text declared. returned text declared planned
  answered_by plan before after (Err e) planned returned = tt

  pub refused_by : (plan : Plan) (result : Result Ended Refusal) → HasPlan plan
      → IfErr result (λ e. (text : List ℕ) → Declares text → HasPlan plan → RefusedOver text e) → IfErr result (λ e. (text : List ℕ) → Declares text → Refused text e)
  refused_by plan (Ok end) planned returned = tt
  refused_by plan (Err e) planned returned = λ text declared. inr (returned text declared planned)

  -- a file of the folder is the text that declares the catalogue
  module _ (text : List ℕ) (held : AreHeld (holds (catalog_path folder)) text) (declared : Declares text) where
    pub done : (before after : Option (List ℕ)) (end : Ended) (status : ℕ) → status ≡ end_status end
        → ((text : List ℕ) → Declares text → IsAnsweredSo holds folder text catalog query rows vector before after end) → IsWholeDone holds folder query rows vector before after status
    done before after end status ends returned =
        let answered = returned text declared in
        record {
          text = text;
          held = held;
          catalog = catalog;
          declared = declared;
          tables = answered.tables;
          loaded = answered.loaded;
          ended = end;
          gather = answered.gather;
          answered = answered.answered;
          ends = ends;
        }

    pub refused : (e : Refusal) → ((text : List ℕ) → Declares text → Refused text e) → IsWholeRefused holds folder query rows vector e
    refused e returned = inr (text, catalog, held, declared, returned text declared)
