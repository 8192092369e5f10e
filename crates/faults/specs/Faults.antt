-- The number and the layer of each problem, and the word for each layer.
use Rattle.std.specs.Prelude.{ℕ, List, codes}
use Rattle.faults.specs.declared.Layer.{Layer}
use Rattle.faults.specs.declared.Layer.TheVariants.{Reader, Grammar, Sheet}
use Rattle.faults.specs.declared.Problem.{Problem}
use Rattle.faults.specs.declared.Problem.TheVariants as problem

-- the number by which programs know a problem
abbrev pub number_of : Problem → ℕ
number_of problem.LongText = 10
number_of problem.Byte = 11
number_of problem.LargeNumber = 12
number_of problem.LongName = 13
number_of problem.Word = 14
number_of problem.Nesting = 15
number_of problem.Unknown = 16
number_of problem.Twice = 17
number_of problem.Full = 18
number_of problem.Range = 19

-- the layer that finds a problem
abbrev pub layer_of : Problem → Layer
layer_of problem.LongText = Sheet
layer_of problem.Byte = Reader
layer_of problem.LargeNumber = Reader
layer_of problem.LongName = Reader
layer_of problem.Word = Grammar
layer_of problem.Nesting = Grammar
layer_of problem.Unknown = Sheet
layer_of problem.Twice = Sheet
layer_of problem.Full = Sheet
layer_of problem.Range = Sheet

-- the word for a layer
abbrev pub layer_word : Layer → List ℕ
layer_word Reader = codes "reader"
layer_word Grammar = codes "grammar"
layer_word Sheet = codes "sheet"
