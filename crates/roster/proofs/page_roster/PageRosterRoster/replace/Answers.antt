use Rattle.std.proofs.Common.{◌≡◌, ℕ, ◌<◌, List, [], ◌∷◌, ◌++◌, length, map, take, slice_set, Some, None, refl, ap, sym, ◌∙◌, arith}
use Rattle.std.proofs.lemmas.Bool.{lt-leb, le-leb}
use Rattle.std.proofs.lemmas.List.{length-take}
use Rattle.roster.specs.Pages.{Filed, filed, filed_as, place_of}
use Rattle.roster.specs.Filing.{put_in, put_found, put_last, put_means, apart_put, no_room_is}
use Rattle.roster.proofs.page_roster.PageRosterRoster.replace.Goals as goal

-- the document stands on the first page of its group, among those in use
on_page : {P : Type 0} (says : P → Filed) (used places : List P) (n i : ℕ) (p : P) (f : Filed) → used ≡ take n places → length used ≡ n
    → (i < length used) × (place_of f.group (map says used) ≡ i) → says p ≡ f
    → map says (take n (slice_set places i p)) ≡ put_in (map says (take n places)) f
on_page says used places n i p f same long found is =
    let cut = length-take n places in
    let k = ap length same in
    put_found says places n i p f (omega arith) (omega (arith, found.0)) (ap (λ ps. place_of f.group (map says ps)) (sym same) ∙ found.1) is

pub invariant_of-self : goal.invariant_of-self
invariant_of-self g c =
    let pages = c.args.self.now.pages in
    let used : c.as_slice.result.now ≡ take pages.count pages.places = cc in
    let e = on_page g.P.Page.says _ pages.places pages.count c.in-Some.place c.of.result (filed_as c.args.document.now) used c.as_slice.ensures.count c.in-Some.ensures c.of.ensures in
    ((pages.within, tt), (apart_put (filed g.P.Page.says pages) _ _ e c.args.self.now.one_each, tt))

pub returns-in-Some : goal.returns-in-Some
returns-in-Some g c =
    let pages = c.args.self.now.pages in
    let new = filed_as c.args.document.now in
    let used : c.as_slice.result.now ≡ take pages.count pages.places = cc in
    let e = on_page g.P.Page.says _ pages.places pages.count c.in-Some.place c.of.result new used c.as_slice.ensures.count c.in-Some.ensures c.of.ensures in
    let means = put_means (filed g.P.Page.says pages) _ new e in
    record {
      answer =
          record {
            room = rw (← used) (no_room_is g.P.Page.says new.group c.as_slice.result.now _ (Some c.in-Some.place) c.in-Some.ensures);
            documents = means.0;
          };
      order = λ _. means.1;
    }

-- the document stands on a page behind those in use
behind : {P : Type 0} (says : P → Filed) (used was now : List P) (p : P) (f : Filed) → used ≡ was → now ≡ used ++ p ∷ []
    → place_of f.group (map says used) ≡ length used → says p ≡ f → map says now ≡ put_in (map says was) f
behind says used was now p f same pushed none is =
    ap (map says) pushed ∙ (put_last says used p f none is ∙ ap (λ ps. put_in (map says ps) f) same)

pub invariant_of-self-then-len-GROUPS : goal.invariant_of-self-then-len-GROUPS
invariant_of-self-then-len-GROUPS g c =
    let pages = c.args.self.now.pages in
    let new = c.push.new.self in
    let used : c.as_slice.result.now ≡ take pages.count pages.places = cc in
    let pushed : take new.count new.places ≡ c.as_slice.result.now ++ c.of-in-None.result ∷ [] = cc in
    let e = behind g.P.Page.says _ _ _ c.of-in-None.result (filed_as c.args.document.now) used pushed c.in-None.ensures c.of-in-None.ensures in
    record { one_each = apart_put (filed g.P.Page.says pages) _ _ e c.args.self.now.one_each }

pub returns-in-None : goal.returns-in-None
returns-in-None g c =
    let pages = c.args.self.now.pages in
    let new = c.push.new.self in
    let used : c.as_slice.result.now ≡ take pages.count pages.places = cc in
    let pushed : take new.count new.places ≡ c.as_slice.result.now ++ c.of-in-None.result ∷ [] = cc in
    let e = behind g.P.Page.says _ _ _ c.of-in-None.result (filed_as c.args.document.now) used pushed c.in-None.ensures c.of-in-None.ensures in
    let room : c.GROUPS.result ≡ g.row.N = c.GROUPS.ensures in
    let means = put_means (filed g.P.Page.says pages) _ _ e in
    record {
      answer =
          record {
            room = rw (← used) (no_room_is g.P.Page.says c.args.document.now.group.number c.as_slice.result.now g.row.N None c.in-None.ensures ∙ lt-leb _ _ (omega arith));
            documents = means.0;
          };
      order = λ _. means.1;
    }

pub returns-in-None-2 : goal.returns-in-None-2
returns-in-None-2 g c =
    let says = g.P.Page.says in
    let pages = c.args.self.now.pages in
    let used : c.as_slice.result.now ≡ take pages.count pages.places = cc in
    let room : c.GROUPS.result ≡ g.row.N = c.GROUPS.ensures in
    record {
      answer =
          (rw (← used) (no_room_is says c.args.document.now.group.number c.as_slice.result.now g.row.N None c.in-None-2.ensures ∙ le-leb _ _ (omega arith)), refl, refl);
      order = grind arith;
    }
