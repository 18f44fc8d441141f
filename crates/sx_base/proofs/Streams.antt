-- One reading of known bytes after another.
use Rattle.std.proofs.Common.{ℕ, ◌≡◌, List, [], ◌++◌, refl, sym, ◌∙◌, ap, append_assoc}
use Rattle.std.specs.declared.option.Option.{Option}
use Rattle.std.specs.declared.option.Option.TheVariants.{None, Some}
use Rattle.std.specs.Io.KnownBytes.{Keeps, Consumes, IsAtEnd, prepend_known}

-- known bytes that nothing changed
pub keeps_same : (a : Option (List ℕ)) → Keeps a a
keeps_same None = tt
keeps_same (Some xs) = refl

-- kept twice
pub keeps_more : (a b c : Option (List ℕ)) → Keeps a b → Keeps b c → Keeps a c
keeps_more None b c h k = tt
keeps_more (Some xs) None c h k = absurd h
keeps_more (Some xs) (Some ys) None h k = absurd k
keeps_more (Some xs) (Some ys) (Some zs) h k = k ∙ h

-- bytes taken from those that are held
pub consumes_held : (held rest line : List ℕ) (a : Option (List ℕ)) → held ≡ line ++ rest → Consumes (prepend_known held a) (prepend_known rest a) line
consumes_held held rest line None e = tt
consumes_held held rest line (Some xs) e = ap (λ h. h ++ xs) e ∙ append_assoc line rest xs

-- taken from what was kept
pub consumes_kept : (a b c : Option (List ℕ)) (bytes : List ℕ) → Keeps a b → Consumes b c bytes → Consumes a c bytes
consumes_kept None b c bytes h k = tt
consumes_kept (Some xs) None c bytes h k = absurd h
consumes_kept (Some xs) (Some ys) None bytes h k = absurd k
consumes_kept (Some xs) (Some ys) (Some zs) bytes h k = sym h ∙ k

-- taken one behind another
pub consumes_more : (a b c : Option (List ℕ)) (x y : List ℕ) → Consumes a b x → Consumes b c y → Consumes a c (x ++ y)
consumes_more None b c x y h k = tt
consumes_more (Some xs) None c x y h k = absurd h
consumes_more (Some xs) (Some ys) None x y h k = absurd k
consumes_more (Some xs) (Some ys) (Some zs) x y h k = h ∙ ap (λ t. x ++ t) k ∙ sym (append_assoc x y zs)

-- no bytes taken
pub consumes_none : (a : Option (List ℕ)) → Consumes a a []
consumes_none None = tt
consumes_none (Some xs) = refl

-- no byte is left of what was kept
pub end_kept : (a b : Option (List ℕ)) → Keeps a b → IsAtEnd b → IsAtEnd a
end_kept None b h k = tt
end_kept (Some xs) None h k = absurd h
end_kept (Some xs) (Some ys) h k = sym h ∙ k

-- nothing was taken
pub keeps_none : (a b : Option (List ℕ)) → Consumes a b [] → Keeps a b
keeps_none None b h = tt
keeps_none (Some xs) None h = absurd h
keeps_none (Some xs) (Some ys) h = sym h
