use Rattle.std.proofs.Common.{◌∙◌, ◌&&◌, ap, sym, List, filter, find, option_map}
use Rattle.sx_guard.specs.declared.sharing.Opened.{Opened}
use Rattle.sx_guard.specs.Sharing.{forbids}
use Rattle.sx_call.specs.declared.opens.Open.{Open}
use Rattle.sx_spec.specs.declared.checks.OpenAsk.{OpenAsk}
use Rattle.sx_spec.specs.Account.{is_on}
use Rattle.sx_spec.specs.Checks.{may_change, open_forbids}
use Rattle.sx_state.specs.declared.by_node.OnNode.{OnNode}
use Rattle.sx_state.specs.Guards.{is_at, opened_of}
use Rattle.sx_state.proofs.GuardLaws.{found_on, none_forbids}
use Rattle.sx_state.proofs.handles.Opens.forbidding.Goals as goal

pub returns-in-AnyOpens : goal.returns-in-AnyOpens
returns-in-AnyOpens c =
    let os = c.args.self.now in
    ap (option_map (λ (o : Open). o.handle)) (sym (ap (λ (ask : OpenAsk). find (open_forbids ask) os) c.in-AnyOpens.is ∙ none_forbids os))

pub returns-in-Beside : goal.returns-in-Beside
returns-in-Beside c =
    let id = c.in-Beside.id in
    let test = λ (p : Opened). forbids c.in-Beside.access c.in-Beside.mode p in
    c.forbidding.ensures
    ∙ ap (λ (es : List OnNode). option_map (λ (e : OnNode). e.opened.handle) (find (λ (e : OnNode). test e.opened) es)) (c.opens_on.ensures ∙ ap (filter (is_at id)) c.deref.ensures.value)
    ∙ found_on id test c.self.inside.listed.items c.self.inside.nodes.items c.self.invariant
    ∙ ap (λ (os : List Open). option_map (λ (o : Open). o.handle) (find (λ (o : Open). is_on id o && test (opened_of o)) os)) c.self.view_is
    ∙ ap (λ (ask : OpenAsk). option_map (λ (o : Open). o.handle) (find (open_forbids ask) c.args.self.now)) (sym c.in-Beside.is)

pub returns-in-NoneChanging : goal.returns-in-NoneChanging
returns-in-NoneChanging c =
    let id = c.in-NoneChanging.id in
    let test = λ (p : Opened). may_change p.access in
    c.changing.ensures
    ∙ ap (λ (es : List OnNode). option_map (λ (e : OnNode). e.opened.handle) (find (λ (e : OnNode). test e.opened) es)) (c.opens_on-in-NoneChanging.ensures ∙ ap (filter (is_at id)) c.deref-in-NoneChanging.ensures.value)
    ∙ found_on id test c.self.inside.listed.items c.self.inside.nodes.items c.self.invariant
    ∙ ap (λ (os : List Open). option_map (λ (o : Open). o.handle) (find (λ (o : Open). is_on id o && test (opened_of o)) os)) c.self.view_is
    ∙ ap (λ (ask : OpenAsk). option_map (λ (o : Open). o.handle) (find (open_forbids ask) c.args.self.now)) (sym c.in-NoneChanging.is)
