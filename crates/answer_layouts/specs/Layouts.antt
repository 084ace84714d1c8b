-- What the readers of answers and states hold, as a layout.
use Rattle.std.specs.Prelude.{◌≡◌, Bool, List, map}
use Rattle.answer_fields.specs.Fields.{AreJobFields, shape_in}
use Rattle.answer_fields.specs.Keeping.{kept_body, are_sums_possible, kept_cell, is_cell_possible}
use Rattle.answer_fields.specs.Spelling as spec
use Rattle.answer_fields.specs.StateSpelling as state
use Rattle.answer_layouts.specs.declared.findings.Findings.{Findings}
use Rattle.answer_layouts.specs.declared.layout.Layout.{Layout}
use Rattle.answer_layouts.specs.declared.state_layout.StateLayout.{StateLayout}

-- whether the sums of each answer are possible
abbrev pub sums_in : List Findings → List Bool
sums_in found = map (λ f. f.are_sums_possible) found

-- the fields of an answer, whose impossible sums are marked
pub record IsLayout (layout : Layout) (read : spec.Layout) : Type 0 where
  pub job : AreJobFields layout.job (record { load = read.load; text = read.text; cut = read.cut })
  pub k : layout.k ≡ read.k
  pub shape : shape_in layout.shape ≡ read.shape
  pub body : layout.body ≡ kept_body read.body
  pub possible : layout.findings.are_sums_possible ≡ are_sums_possible read.body

-- the fields of a state
pub record IsStateLayout (layout : StateLayout) (read : state.StateLayout) : Type 0 where
  pub job : AreJobFields layout.job (record { load = read.load; text = read.text; cut = read.cut })
  pub shape : shape_in layout.shape ≡ read.shape
  pub cells : layout.cells.items ≡ map kept_cell read.cells
  pub possible : sums_in layout.findings.items ≡ map is_cell_possible read.cells
