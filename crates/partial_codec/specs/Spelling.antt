-- The spelling of an answer for a job, one in each format.
use Rattle.std.specs.Prelude.{ℕ, List}
use Rattle.meaning.specs.Said.{Answer}
use Rattle.answer_fields.specs.declared.format.Format.{Format}
use Rattle.answer_fields.specs.Format.{newest}
use Rattle.answer_fields.specs.Shape.{shape_of}
use Rattle.partial_codec.specs.Job.{JobSpec}
use Rattle.wire.specs.Bytes.{sealed}
pub use Rattle.answer_fields.specs.Spelling.{aggregate_bytes, Layout}
unfoldable pub use Rattle.answer_fields.specs.Spelling.{value_bytes, set_bytes, state_bytes, states_bytes, group_bytes, body_bytes, job_bytes, shape_bytes, layout_bytes}

-- what an answer for a job is laid out from
abbrev pub layout_of : Format → JobSpec → Answer → Layout
layout_of format job a = record {
  format = format;
  load = job.load;
  text = job.plan.text;
  cut = job.cut;
  k = a.k;
  shape = shape_of job.plan;
  body = a.body;
}

-- the one spelling of an answer for a job in a format
abbrev pub answer_spelling : Format → JobSpec → Answer → List ℕ
answer_spelling format job a = sealed (layout_bytes (layout_of format job a))

-- how an answer is written
abbrev pub answer_bytes : JobSpec → Answer → List ℕ
answer_bytes job a = answer_spelling newest job a
