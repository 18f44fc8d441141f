use Rattle.std.proofs.Common.{◌≡◌, ◌∙◌, ℕ, ◌+◌, List, map, take, drop, ap}
use Rattle.std.specs.List.{filter, flat_map}
use Rattle.sx_call.specs.declared.pages.ShareItem.{ShareItem}
use Rattle.sx_tree.specs.declared.share.Share.{Share}
use Rattle.sx_spec.specs.Pages.{items_of, next_share, share_items}
use Rattle.sx_ops_share.specs.Listed.{is_listed}
use Rattle.sx_ops_share.proofs.Cuts.{page_is, page_items, page_next}
use Rattle.sx_ops_share.proofs.listing.page_of.Goals as goal

pub returns : goal.returns
returns c =
    let call = c.args.call.now in
    let n = c.results-max.result in
    let all = share_items c.args.state.now call.prefix call.marker call.snapshots in
    let items = c.in_ok-items.items.items in
    let listed : items ≡ take (n + 1) all =
    c.in_ok-items.ensures
    ∙ ap (λ (xs : List Share). take (n + 1) (filter (is_listed call.prefix call.marker) (flat_map (items_of call.snapshots) xs)))
    (ap (map (λ s. s.now)) c.deref.ensures.value ∙ c.in_ok-shares.ensures)
    in
    page_is c.args.state.now call.prefix call.marker call.max call.snapshots c.in_ok-copy.field-0 c.in_ok-marker_text.field-0 c.in_ok-next.next c.of.result
    (c.in_ok-copy.ensures ∙ c.text.ensures.value)
    c.in_ok-marker_text.ensures
    (c.of.ensures ∙ c.truncate.ensures.items ∙ page_items n items all listed ∙ ap (λ (k : ℕ). take k all) c.results-max.ensures.value)
    (c.in_ok-next.ensures
    ∙ ap (λ (xs : List ShareItem). next_share (drop n xs)) c.deref-2.ensures.value
    ∙ page_next n items all listed
    ∙ ap (λ (k : ℕ). next_share (drop k all)) c.results-max.ensures.value)
