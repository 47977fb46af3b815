use Rattle.std.proofs.Common.{refl, ℕ}
use Rattle.reading.specs.Lines.{Item, kind_named}
use Rattle.reading.specs.declared.lines.Digits.{Digits}
use Rattle.choosers.specs.declared.chooser.Kind.{Kind}
use Rattle.reading.proofs.Reading.{kind_first, kind_second, kind_neither}
use Rattle.reading.proofs.Taking.{took_bad, took_close}
use Rattle.reading.proofs.lines.Lines.kind.Goals as goal

named : Item → Kind
named l = kind_named l.value

digits : ℕ → Digits
digits v = record { value = v; count = 0 }

pub returns-then-starts_with-clause-took : goal.returns-then-starts_with-clause-took
unfolding kind_named named digits
returns-then-starts_with-clause-took c =
    took_close named _ _ _ (digits 0) _ _ (λ z. refl) (kind_first _ _ c.starts_with.ensures c.if-starts_with.true) (c.close.ensures.took (digits 0))

pub returns-then-starts_with-2-clause-took : goal.returns-then-starts_with-2-clause-took
unfolding kind_named named digits
returns-then-starts_with-2-clause-took c =
    took_close named _ _ _ (digits 1) _ _ (λ z. refl) (kind_second _ _ c.starts_with.ensures c.if-starts_with.false c.starts_with-2.ensures c.if-starts_with-2.true)
    (c.close-then-starts_with-2.ensures.took (digits 1))

pub returns-clause-took : goal.returns-clause-took
returns-clause-took c = took_bad _ c.bad.ensures (kind_neither _ _ c.starts_with.ensures c.if-starts_with.false c.starts_with-2.ensures c.if-starts_with-2.false)
