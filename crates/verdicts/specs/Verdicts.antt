-- What a classification answers (02, [6]: "the action and the blocks read in all tries"): number and values of each case. "Actions follow
-- the hop rules of [4]": a discard is an answer of its own.
use Rattle.std.specs.Prelude.{ℕ, ◌<◌, ◌≡◌, Result, Ok, Err}
use Rattle.table.specs.Limits.{discard_hop}
use Rattle.walk.specs.Told.{lookup_refusal_number}
use Rattle.walk.specs.declared.numbers.LookupRefusal.{LookupRefusal}
use Rattle.verdicts.specs.declared.verdict.Verdict as code
use Rattle.verdicts.specs.Cases.{Verdict}
use Rattle.verdicts.specs.Cases.{Act, Discard, NoRule, Refused}

-- the refusal's number, 0 for an accepted classification
abbrev pub verdict_number : Verdict → ℕ
verdict_number (Act action reads) = 0
verdict_number (Discard reads) = 0
verdict_number (NoRule reads) = 0
verdict_number (Refused number) = number

abbrev pub action_of : Verdict → ℕ
action_of (Act action reads) = action
action_of (Discard reads) = discard_hop
action_of (NoRule reads) = 0
action_of (Refused number) = 0

abbrev pub verdict_reads : Verdict → ℕ
verdict_reads (Act action reads) = reads
verdict_reads (Discard reads) = reads
verdict_reads (NoRule reads) = reads
verdict_reads (Refused number) = 0

-- which case a verdict is, by number and action: a refusal has a number; of the others action 0 is no rule, `discard_hop` a discard, and
-- every other action is to act
abbrev pub VerdictCase : Verdict → Type 0
VerdictCase (Act action reads) = (0 < action) × (action ≡ discard_hop → ⊥)
VerdictCase (Discard reads) = Unit {0}
VerdictCase (NoRule reads) = Unit {0}
VerdictCase (Refused number) = 0 < number

-- a verdict of the code, or its refusal, as the laws have it
abbrev pub case_of : code.Verdict → Verdict
case_of (code.TheVariants.Act action reads) = Act action reads
case_of (code.TheVariants.Discard reads) = Discard reads
case_of (code.TheVariants.NoRule reads) = NoRule reads

abbrev pub said : Result code.Verdict LookupRefusal → Verdict
said (Ok v) = case_of v
said (Err e) = Refused (lookup_refusal_number e)
