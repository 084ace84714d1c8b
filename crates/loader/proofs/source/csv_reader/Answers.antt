-- Proofs of the goals of `csv_reader` (`source`).
use Rattle.std.proofs.Common.{inr, ◌∙◌, ap, option_map}
use Rattle.csv.specs.Reading.{default_config, strip_bom}
use Rattle.loader.proofs.CsvRecords.{all_records}
use Rattle.loader.proofs.source.csv_reader.Goals as goal

pub returns : goal.returns
returns g c bytes known =
    let fr = c.from_reader.ensures in
    let flexible = c.flexible.ensures in
    let plain = c.has_headers.ensures in
    record {
      config = rw (flexible, plain) at fr.config ∙ c.new.ensures.config;
      untrimmed = rw (flexible, plain) at fr.trim ∙ c.new.ensures.trim;
      flexible = rw flexible at fr.flexible;
      ready = inr (inr (rw (flexible, plain) at fr.has_headers, fr.headers));
      bytes = strip_bom bytes;
      source = fr.source ∙ ap (option_map strip_bom) known;
      rows = rw fr.state (all_records default_config (strip_bom bytes));
    }
