-- What it means that the groups of a roster name a user.
use Rattle.std.proofs.Common.{◌≡◌, ℕ, Bool, true, false, ◌||◌, eqb, ◌⊎◌, List, [], ◌∷◌, is_some, Some, None, Option, Decides, sym, refl, ap, ◌∙◌, inl, inr}
use Rattle.std.specs.List.{list_any}
use Rattle.std.proofs.lemmas.Bool.{false≢true, eqb-true, or_left, or_right}
use Rattle.mcptt.specs.declared.identity.GroupId.{GroupId}
use Rattle.sheet.specs.Contents.{Content}
use Rattle.sheet.specs.Rules.{names}
use Rattle.roster.specs.Meaning.{members_in, as_groups, among}
use Rattle.commission.specs.Users.{Named}

-- some of these groups has a document that names the user
abbrev pub named_in : (ℕ → Option Content) → List ℕ → ℕ → Bool
named_in held carried user = list_any (λ (group : GroupId). names user (members_in (held group.number))) (as_groups carried)

-- only a document names users
some_document : (user : ℕ) (o : Option Content) → names user (members_in o) ≡ true → is_some o ≡ true
some_document user (Some c) h = refl
some_document user None h = absurd (false≢true h)

name_first : (held : ℕ → Option Content) (g : ℕ) (gs : List ℕ) (user : ℕ) → (named_in held gs user ≡ true → Named held user)
    → (b : Bool) → names user (members_in (held g)) ≡ b → (b || named_in held gs user) ≡ true → Named held user
name_first held g gs user later true e h = (g, e)
name_first held g gs user later false e h = later h

some_names : (held : ℕ → Option Content) (carried : List ℕ) (user : ℕ) → named_in held carried user ≡ true → Named held user
some_names held [] user h = absurd (false≢true h)
some_names held (g ∷ gs) user h = name_first held g gs user (some_names held gs user) (names user (members_in (held g))) refl h

among_first : (held : ℕ → Option Content) (g : ℕ) (gs : List ℕ) (user group : ℕ) → names user (members_in (held group)) ≡ true
    → (among group gs ≡ true → named_in held gs user ≡ true) → (b : Bool) → eqb g group ≡ b → (b || among group gs) ≡ true → named_in held (g ∷ gs) user ≡ true
among_first held g gs user group named later true e h =
    or_left _ (named_in held gs user) (ap (λ k. names user (members_in (held k))) (eqb-true g group e) ∙ named)
among_first held g gs user group named later false e h = or_right (names user (members_in (held g))) _ (later h)

names_in : (held : ℕ → Option Content) (carried : List ℕ) (user group : ℕ) → names user (members_in (held group)) ≡ true → among group carried ≡ true
    → named_in held carried user ≡ true
names_in held [] user group named h = absurd (false≢true h)
names_in held (g ∷ gs) user group named h = among_first held g gs user group named (names_in held gs user group named) (eqb g group) refl h

-- a roster names a user where one of the groups that it carries does
pub named_decides : (held : ℕ → Option Content) (carried : List ℕ) (user : ℕ) → ((g : ℕ) → is_some (held g) ≡ among g carried)
    → Decides (named_in held carried user) (Named held user)
named_decides held carried user law = (
  some_names held carried user,
  (λ n. names_in held carried user n.0 n.1 (sym (law n.0) ∙ some_document user (held n.0) n.1)),
)

-- a user is named or not
pub named_or_not : (held : ℕ → Option Content) (carried : List ℕ) (user : ℕ) → ((g : ℕ) → is_some (held g) ≡ among g carried)
    → Named held user ⊎ (Named held user → ⊥)
named_or_not held carried user law = go (named_in held carried user) refl
  where
    go : (b : Bool) → named_in held carried user ≡ b → Named held user ⊎ (Named held user → ⊥)
    go true e = inl ((named_decides held carried user law).0 e)
    go false e = inr (λ n. false≢true (sym e ∙ (named_decides held carried user law).1 n))
