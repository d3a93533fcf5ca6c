-- What a line of values says.
use Rattle.std.specs.Prelude.{ℕ, List, Some, Option}
use Rattle.words.specs.declared.values.Values.{Values}
use Rattle.words.specs.Parts.{three_words}
use Rattle.words.specs.Words.{number_of, metric_of}
use Rattle.words.specs.Calls.{on}

-- the values of a line: width, height and metric
abbrev pub values_in : List ℕ → Option Values
values_in bytes =
    on (three_words bytes) (λ words.
    on (number_of words.first) (λ width.
    on (number_of words.second) (λ height.
    on (metric_of words.third) (λ metric.
    Some (record { width = width; height = height; metric = metric })))))
