-- What is written and the text of the metrics that are left come to what was there and the text of all.
use Rattle.std.proofs.Common.{◌≡◌, ◌++◌, drop}
use Rattle.exchange_report.specs.Metrics.{metrics_text}
use Rattle.exchange_report.proofs.metrics.write_metrics.Given as goal

abbrev pub invariant-loop-metric : goal.invariant-loop-metric
invariant-loop-metric l = l.out.items ++ metrics_text (drop l.metric-index l.metrics) ≡ l.initial.out.items ++ metrics_text l.metrics
