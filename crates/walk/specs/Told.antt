-- What a lookup hands back, in numbers.
use Rattle.std.specs.Prelude.{ℕ, Result, Ok, Err}
use Rattle.walk.specs.declared.numbers.LookupRefusal.{LookupRefusal}
use Rattle.walk.specs.declared.numbers.LookupRefusal.TheVariants.{Width, Levels, Address, Damage}
use Rattle.walk.specs.Cases.{Answer, Match, Discard, NoRoute, Refused}
use Rattle.walk.specs.declared.walk.Answer as code
use Rattle.walk.specs.declared.numbers.Found.{Found}
use Rattle.walk.specs.declared.numbers.AnswerNumbers.{AnswerNumbers}

abbrev pub lookup_refusal_number : LookupRefusal → ℕ
lookup_refusal_number Width = 1
lookup_refusal_number Levels = 2
lookup_refusal_number Address = 8
lookup_refusal_number Damage = 9

abbrev pub tested_number : Result (Unit {0}) LookupRefusal → ℕ
tested_number (Ok _) = 0
tested_number (Err r) = lookup_refusal_number r

abbrev pub found_numbers : Found → AnswerNumbers
found_numbers f = record { number = 0; hop = f.hop; length = f.length; reads = f.reads }

abbrev pub numbers_of : Result Found LookupRefusal → AnswerNumbers
numbers_of (Ok f) = found_numbers f
numbers_of (Err r) = record { number = lookup_refusal_number r; hop = 0; length = 0; reads = 0 }

-- an answer of the code, or its refusal, as the laws have it
abbrev pub case_of : code.Answer → Answer
case_of (code.TheVariants.Match h l r) = Match h l r
case_of (code.TheVariants.Discard l r) = Discard l r
case_of (code.TheVariants.NoRoute r) = NoRoute r

abbrev pub said : Result code.Answer LookupRefusal → Answer
said (Ok a) = case_of a
said (Err e) = Refused (lookup_refusal_number e)

-- an answer of the code, or a refusal's number, as the laws have it
abbrev pub said_number : Result code.Answer ℕ → Answer
said_number (Ok a) = case_of a
said_number (Err n) = Refused n
