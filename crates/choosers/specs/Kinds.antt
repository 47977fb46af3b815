-- The kinds of stride choice: for each case of the code's enum, the kind of the definitions.
use Rattle.strides.specs.Cheapest.{Kind, fixed, variable}
use Rattle.choosers.specs.declared.chooser.Kind.TheVariants.{Fixed, Variable}
use Rattle.choosers.specs.declared.chooser.Kind as code

abbrev pub kind_of : code.Kind → Kind
kind_of Fixed = fixed
kind_of Variable = variable
