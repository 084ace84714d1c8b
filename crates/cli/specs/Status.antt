-- The exit statuses of the program.
use Rattle.std.specs.Prelude.{◌≡◌, ◌⊎◌, ℕ}
use Rattle.gathering.specs.declared.report.Ended.{Ended}
use Rattle.gathering.specs.declared.report.Ended.TheVariants.{Rows, Fault}
use Rattle.gathering.specs.declared.report.Report.{Report}
use Rattle.gathering.specs.declared.report.Report.TheVariants as report

-- a query that ends with a fault of arithmetic ends with 3
abbrev pub end_status : Ended → ℕ
end_status Rows = 0
end_status Fault = 3

-- so does one that is gathered; where answers are missing or in conflict it ends with 4
abbrev pub report_status : Report → ℕ
report_status report.Rows = 0
report_status report.Fault = 3
report_status (report.Missing ks) = 4
report_status (report.Conflict ks) = 4

-- a command that is done ends with 0, 3 or 4
abbrev pub IsEndStatus : ℕ → Type 0
IsEndStatus status = (status ≡ 0) ⊎ (status ≡ 3) ⊎ (status ≡ 4)

-- a command that runs ends with 0, 1, 3 or 4
abbrev pub IsRunStatus : ℕ → Type 0
IsRunStatus status = (status ≡ 0) ⊎ (status ≡ 1) ⊎ (status ≡ 3) ⊎ (status ≡ 4)
