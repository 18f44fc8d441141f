use Rattle.std.proofs.Common.{◌≡◌, ◌-◌, true, false, length, sym, subst, ◌∙◌}
use Rattle.std.specs.Prelude.{slice_get}
use Rattle.sx_names.specs.Meta.{is_meta, follows}
use Rattle.sx_names.proofs.Ordered.{takes_by}
use Rattle.sx_names.proofs.meta.Meta.takes.Goals as goal

pub returns-then-follows_last : goal.returns-then-follows_last
returns-then-follows_last c =
    let same : c.as_slice.result.now ≡ c.args.self.now = c.as_slice.ensures ∙ c.self.view_is in
    let meta : is_meta c.args.self.now ≡ true = subst (λ ps. is_meta ps ≡ true) c.self.view_is c.self.invariant.0 in
    let after = subst (λ ps. follows (slice_get ps (length ps - 1)) c.args.pair.now ≡ true) same
    (sym c.follows_last.ensures ∙ c.if-follows_last.true) in
    takes_by c.args.self.now c.args.pair.now c.has_room-has_room.result true meta c.has_room-has_room.ensures.pair c.has_room-has_room.ensures.value after

pub returns-else-follows_last : goal.returns-else-follows_last
returns-else-follows_last c =
    let same : c.as_slice.result.now ≡ c.args.self.now = c.as_slice.ensures ∙ c.self.view_is in
    let meta : is_meta c.args.self.now ≡ true = subst (λ ps. is_meta ps ≡ true) c.self.view_is c.self.invariant.0 in
    let after = subst (λ ps. follows (slice_get ps (length ps - 1)) c.args.pair.now ≡ false) same
    (sym c.follows_last.ensures ∙ c.if-follows_last.false) in
    c.if-follows_last.false
    ∙ takes_by c.args.self.now c.args.pair.now c.has_room-has_room.result false meta c.has_room-has_room.ensures.pair c.has_room-has_room.ensures.value after
