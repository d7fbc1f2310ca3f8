-- Counters as OpenMetrics text: the lines of a family stand together, after those that say its kind and what it is.
use Rattle.std.specs.Prelude.{ℕ, ◌/◌, ◌%◌, List, [], ◌∷◌, ◌++◌, codes}
use Rattle.adapt_bytes.specs.Numeral.{numeral, three_digits}
use Rattle.exchange_report.specs.Entry.{why_word}
use Rattle.exchange_report.specs.declared.metrics.Kind.{Kind}
use Rattle.exchange_report.specs.declared.metrics.Kind.TheVariants.{Counter, Gauge, Histogram}
use Rattle.exchange_report.specs.declared.metrics.Family.{Family as AnyFamily}
use Rattle.exchange_report.specs.declared.metrics.Metric.{Metric}
use Rattle.exchange_report.specs.declared.why.Why.{Why}
use Rattle.exchange_report.specs.declared.metrics.Metric.TheVariants.{Family, Sample, Reason, Bucket, Times}

abbrev pub kind_word : Kind → List ℕ
kind_word Counter = codes " counter\n"
kind_word Gauge = codes " gauge\n"
kind_word Histogram = codes " histogram\n"

-- a counter's numbers are named for the total
abbrev pub ending : Kind → List ℕ
ending Counter = codes "_total"
ending Gauge = []
ending Histogram = []

abbrev pub type_text : AnyFamily → List ℕ
type_text f = codes "# TYPE " ++ f.name.now ++ kind_word f.kind

abbrev pub help_text : AnyFamily → List ℕ
help_text f = codes "# HELP " ++ f.name.now ++ codes " " ++ f.help.now ++ codes "\n"

abbrev pub family_text : AnyFamily → List ℕ
family_text f = type_text f ++ help_text f

-- a number's line, by what stands after its family's name, and its labels
abbrev pub sample_text : AnyFamily → List ℕ → List ℕ → ℕ → List ℕ
sample_text f ending labels value = f.name.now ++ ending ++ labels ++ codes " " ++ numeral 10 value ++ codes "\n"

unfoldable pub reason_labels : List ℕ → Why → List ℕ
reason_labels point why = codes "{point=\"" ++ point ++ codes "\",why=\"" ++ why_word why ++ codes "\"}"

-- a number of a point and a reason
abbrev pub reason_text : AnyFamily → List ℕ → Why → ℕ → List ℕ
reason_text f point why value = sample_text f (ending f.kind) (reason_labels point why) value

-- the seconds that all of them took, with three decimals
unfoldable pub sum_text : AnyFamily → ℕ → List ℕ
sum_text f milliseconds = f.name.now ++ codes "_sum " ++ numeral 10 (milliseconds / 1000) ++ codes "." ++ three_digits (milliseconds % 1000)
    ++ codes "\n"

abbrev pub metric_text : Metric → List ℕ
metric_text (Family f) = family_text f
metric_text (Sample f labels value) = sample_text f (ending f.kind) labels.now value
metric_text (Reason f point why value) = reason_text f point.now why value
metric_text (Bucket f labels value) = sample_text f (codes "_bucket") labels.now value
metric_text (Times f count milliseconds) = sample_text f (codes "_count") [] count ++ sum_text f milliseconds

abbrev pub metrics_text : List Metric → List ℕ
metrics_text [] = []
metrics_text (metric ∷ metrics) = metric_text metric ++ metrics_text metrics
