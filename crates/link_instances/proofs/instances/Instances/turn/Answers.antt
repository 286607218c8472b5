use Rattle.std.proofs.Common.{◌≡◌, [], ◌++◌, subst, rules, Option}
use Rattle.std.specs.Option.{option_to_list}
use Rattle.std.proofs.lemmas.Result.{err_from_is_err_and}
use Rattle.link_instances.specs.declared.fitting.Frame.{Frame}
use Rattle.link_instances.specs.declared.fitting.Step.{Step}
use Rattle.link_instances.specs.Fitting.{IsStep}
use Rattle.link_instances.proofs.Going.{walk_ended, done_passed, goes_done, goes_missing, goes_on}
use Rattle.link_instances.proofs.instances.Instances.turn.Goals as goal

pub returns-in_default-clause-is : goal.returns-in_default-clause-is
returns-in_default-clause-is c = λ w given asked h on.
    let none : c.args.walk.now.stack.items ≡ [] = search rules in
    (h, rw c.fit_of.ensures (walk_ended c.args.types.now w given asked c.args.walk.now on none))

pub returns-in_err-remember-in-Done-clause-is : goal.returns-in_err-remember-in-Done-clause-is
returns-in_err-remember-in-Done-clause-is c = λ w given asked h on.
    let pops = subst (λ (o : Option Frame). c.args.walk.now.stack.items ≡ c.pop.new.self.items ++ option_to_list o) c.in-Some.is c.pop.ensures.items in
    let passed = done_passed c.args.types.now w given asked c.args.walk.now c.args.walk.now c.pop.new.self.items c.in-Some.frame on pops
    (λ f is. subst (λ (s : Step). IsStep c.args.types.now w c.in-Some.frame f s) c.in-Done.is (c.step.ensures.is w f h is)) in
    let p = err_from_is_err_and c.from_residual.result c.from_residual.ensures.1 in
    rw p.1 (c.remember.ensures.instances c.args.types.now w h (rw c.pair.ensures passed))

pub returns-in-Missing-clause-is : goal.returns-in-Missing-clause-is
returns-in-Missing-clause-is c = λ w given asked h on.
    let pops = subst (λ (o : Option Frame). c.args.walk.now.stack.items ≡ c.pop.new.self.items ++ option_to_list o) c.in-Some.is c.pop.ensures.items in (
      h,
      goes_missing c.args.types.now w given asked c.args.walk.now c.args.walk.now c.pop.new.self.items c.in-Some.frame on pops c.in-Missing.name
          (λ f is. subst (λ (s : Step). IsStep c.args.types.now w c.in-Some.frame f s) c.in-Missing.is (c.step.ensures.is w f h is)),
    )

pub returns-in_ok-remember-in-Done-clause-is : goal.returns-in_ok-remember-in-Done-clause-is
returns-in_ok-remember-in-Done-clause-is c = λ w given asked h on.
    let pops = subst (λ (o : Option Frame). c.args.walk.now.stack.items ≡ c.pop.new.self.items ++ option_to_list o) c.in-Some.is c.pop.ensures.items in
    let passed = done_passed c.args.types.now w given asked c.args.walk.now c.args.walk.now c.pop.new.self.items c.in-Some.frame on pops
    (λ f is. subst (λ (s : Step). IsStep c.args.types.now w c.in-Some.frame f s) c.in-Done.is (c.step.ensures.is w f h is)) in (
      c.remember.ensures.instances c.args.types.now w h (rw c.pair.ensures passed),
      goes_done c.args.types.now w given asked c.args.walk.now c.remember.new.walk c.pop.new.self.items c.in-Some.frame on pops
          (λ f is. subst (λ (s : Step). IsStep c.args.types.now w c.in-Some.frame f s) c.in-Done.is (c.step.ensures.is w f h is))
          c.remember.ensures.stack c.remember.ensures.agrees (c.remember.ensures.passed c.args.types.now w on.passed (rw c.pair.ensures passed)),
    )

pub returns-in_ok-goes_on-in-Compared-clause-is : goal.returns-in_ok-goes_on-in-Compared-clause-is
returns-in_ok-goes_on-in-Compared-clause-is c = λ w given asked h on.
    let pops = subst (λ (o : Option Frame). c.args.walk.now.stack.items ≡ c.pop.new.self.items ++ option_to_list o) c.in-Some.is c.pop.ensures.items in (
      h,
      goes_on c.args.types.now w given asked c.args.walk.now c.goes_on.new.walk c.pop.new.self.items c.in-Some.frame on pops c.are_distinct.ensures c.args.self.now.known h.known c.in-Compared.comparison
          (λ f is. subst (λ (s : Step). IsStep c.args.types.now w c.in-Some.frame f s) c.in-Compared.is (c.step.ensures.is w f h is))
          c.in_ok-goes_on-in-Compared.ensures,
    )
