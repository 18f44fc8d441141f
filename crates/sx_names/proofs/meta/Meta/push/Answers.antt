use Rattle.std.proofs.Common.{◌≡◌, ◌++◌, ◌∷◌, [], true, arith, sym, subst, ap}
use Rattle.sx_names.specs.Meta.{is_meta, meta_length}
use Rattle.sx_names.proofs.Ordered.{meta_limits, meta_length_more}
use Rattle.sx_names.proofs.meta.Meta.push.Goals as goal

pub overflow_add-self : goal.overflow_add-self
overflow_add-self c =
    let whole : is_meta (c.self.inside.pairs ++ c.args.pair ∷ []) ≡ true = subst (λ ps. is_meta (ps ++ c.args.pair ∷ []) ≡ true) (sym c.self.view_is) c.requires in
    let limits = meta_limits (c.self.inside.pairs ++ c.args.pair ∷ []) whole in
    omega (arith, limits.1, meta_length_more c.self.inside.pairs c.args.pair, c.self.invariant.1, c.pair_length-more.ensures.value)

pub invariant_of-self-2 : goal.invariant_of-self-2
invariant_of-self-2 c =
    let whole : is_meta (c.self.inside.pairs ++ c.args.pair ∷ []) ≡ true = subst (λ ps. is_meta (ps ++ c.args.pair ∷ []) ≡ true) (sym c.self.view_is) c.requires in
    let pushed : c.push.new.self ≡ c.self.inside.pairs ++ c.args.pair ∷ [] = c.in_ok-push.ensures.ok in (
      subst (λ ps. is_meta ps ≡ true) (sym pushed) whole,
      omega (arith, ap meta_length pushed, meta_length_more c.self.inside.pairs c.args.pair, c.self.invariant.1, c.pair_length-more.ensures.value),
    )
