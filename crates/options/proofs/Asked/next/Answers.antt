-- `options::Asked::next` meets its contract: each way out rewrites with the tests that led there.
use Rattle.std.proofs.Common.{◌≡◌, refl, sym, ◌∙◌, lt-ltb, le-ltb, eqb}
use denote.Enum.Bare.{sameb}
use Rattle.options.specs.declared.What.{What}
use Rattle.options.specs.declared.What.TheVariants.{Run, Help, Version, File, Twice, Unknown, Many, Few, Unfit}
use Rattle.options.specs.contracts.What.{the_type}
use Rattle.options.specs.Options.{file, number, next}
use Rattle.options.proofs.Asked.next.Goals as goal

-- its file is awaited
awaited : (w : What) → sameb the_type w File ≡ eqb (number w) file
awaited Run = refl
awaited Help = refl
awaited Version = refl
awaited File = refl
awaited Twice = refl
awaited Unknown = refl
awaited Many = refl
awaited Few = refl
awaited Unfit = refl

pub returns-then-settled : goal.returns-then-settled
unfolding next
returns-then-settled c = rw (sym c.settled.ensures ∙ c.if-settled.true)

pub returns-then-no_path : goal.returns-then-no_path
unfolding next
returns-then-no_path c =
    rw (sym c.settled.ensures ∙ c.if-settled.false, sym c.no_path.ensures ∙ c.if-no_path.true) c.decided.ensures

pub returns-then-eq : goal.returns-then-eq
unfolding next
returns-then-eq c =
    rw (
      sym c.settled.ensures ∙ c.if-settled.false,
      sym c.no_path.ensures ∙ c.if-no_path.false,
      sym (awaited c.args.self.what) ∙ (sym c.eq.ensures ∙ c.if-eq.true),
    )
    c.with_tables.ensures

pub option-requires : goal.option-requires
option-requires c = sym c.no_path.ensures ∙ c.if-no_path.false

pub returns-in-Some : goal.returns-in-Some
unfolding next
returns-in-Some c =
    rw (
      sym c.settled.ensures ∙ c.if-settled.false,
      sym c.no_path.ensures ∙ c.if-no_path.false,
      sym (awaited c.args.self.what) ∙ (sym c.eq.ensures ∙ c.if-eq.false),
      sym c.option.ensures ∙ c.in-Some.is,
    )
    c.decided-in-Some.ensures

pub returns-then-self-most : goal.returns-then-self-most
unfolding next
returns-then-self-most c =
    rw (
      sym c.settled.ensures ∙ c.if-settled.false,
      sym c.no_path.ensures ∙ c.if-no_path.false,
      sym (awaited c.args.self.what) ∙ (sym c.eq.ensures ∙ c.if-eq.false),
      sym c.option.ensures ∙ c.in_default.is,
      lt-ltb _ _ c.if-self-most.true,
    )
    c.with_operand.ensures

pub returns : goal.returns
unfolding next
returns c =
    rw (
      sym c.settled.ensures ∙ c.if-settled.false,
      sym c.no_path.ensures ∙ c.if-no_path.false,
      sym (awaited c.args.self.what) ∙ (sym c.eq.ensures ∙ c.if-eq.false),
      sym c.option.ensures ∙ c.in_default.is,
      le-ltb _ _ c.if-self-most.false,
    )
    c.decided-2.ensures
