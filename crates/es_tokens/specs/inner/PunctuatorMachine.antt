-- What may still come in each state of the machine of punctuators.
use Rattle.std.specs.Prelude.{[], ◌∷◌, codes}
use Rattle.es_tokens.specs.Shape.{Shape, empty, char}
use Rattle.es_tokens.specs.PunctuatorShape.{any_of, punctuators}
use Rattle.es_tokens.specs.declared.punctuator.Punctuator.{Punctuator}
use Rattle.es_tokens.specs.declared.punctuator.Punctuator.TheVariants.{Start, Only, End, OrEqual, Less, Greater, TwoGreater, Equal, Bang, Plus, Minus, Star, And, Or, Question, Dot, DotDot}

abbrev pub punctuator_left : Punctuator → Shape
punctuator_left Start = punctuators
punctuator_left Only = char 0x3f
punctuator_left End = empty
punctuator_left OrEqual = any_of ([] ∷ codes "=" ∷ [])
punctuator_left Less = any_of ([] ∷ codes "=" ∷ codes "<" ∷ codes "<=" ∷ [])
punctuator_left Greater = any_of ([] ∷ codes "=" ∷ codes ">" ∷ codes ">=" ∷ codes ">>" ∷ codes ">>=" ∷ [])
punctuator_left TwoGreater = any_of ([] ∷ codes "=" ∷ codes ">" ∷ codes ">=" ∷ [])
punctuator_left Equal = any_of ([] ∷ codes "=" ∷ codes "==" ∷ codes ">" ∷ [])
punctuator_left Bang = any_of ([] ∷ codes "=" ∷ codes "==" ∷ [])
punctuator_left Plus = any_of ([] ∷ codes "+" ∷ codes "=" ∷ [])
punctuator_left Minus = any_of ([] ∷ codes "-" ∷ codes "=" ∷ [])
punctuator_left Star = any_of ([] ∷ codes "*" ∷ codes "=" ∷ codes "*=" ∷ [])
punctuator_left And = any_of ([] ∷ codes "&" ∷ codes "=" ∷ codes "&=" ∷ [])
punctuator_left Or = any_of ([] ∷ codes "|" ∷ codes "=" ∷ codes "|=" ∷ [])
punctuator_left Question = any_of ([] ∷ codes "?" ∷ codes "." ∷ codes "?=" ∷ [])
punctuator_left Dot = any_of ([] ∷ codes ".." ∷ [])
punctuator_left DotDot = any_of (codes "." ∷ [])
