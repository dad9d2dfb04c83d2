-- One pass over the talk of a link.
use Rattle.std.proofs.Common.{◌≡◌, suc, List, [], ◌∷◌, ◌++◌, length, drop, map, fold, Bool, true, false, cond, ◌||◌, eqb, refl, sym, ap, subst, ◌∙◌, append_assoc, append-nil}
use Rattle.std.specs.Prelude.{option_to_list}
use Rattle.std.specs.List.{list_any, AllByRecursion}
use Rattle.std.proofs.lemmas.List.{map-append}
use Rattle.std.proofs.lemmas.List.Folds.{list_any-append}
use Rattle.std.proofs.lemmas.List.Sums.{fold-append}
use Rattle.link_talk.specs.declared.channel.Channel.{Channel}
use Rattle.link_talk.specs.Sayings.{Saying}
use Rattle.link_talk.specs.Senses.{sense}
use Rattle.link_talk.specs.Requests.{Requests}
use Rattle.link_talk.specs.Meanings.{Meaning, meant}
use Rattle.link_talk.specs.Channels.{Entry, fresh, entry_after, is_owner, with_fresh, made_by, Reading, read_on, reading}
use Rattle.link_talk.specs.Carriages.{has_own}
use Rattle.link_talk.proofs.OnePass.{reading-more}
use Rattle.talk_laws.specs.LinkPass.{KeptChannel, LinkPass, no_pass, entry_of, held_by, ChannelStep, kept_after, kept_with, pass_after, pass_of, kept_of, pass_back, Follows}
use Rattle.talk_laws.proofs.Passes.{from_end, drop_front}
use Rattle.talk_laws.proofs.Owning.{Alone, either_false, eqb_other, alone, owns_stay}

-- ---- entries stay in their places, and new ones come behind them

pub record Grown (old new : List Entry) : Type 0 where
  pub behind : List Entry
  pub grown : new ≡ old ++ behind

grown_if : (new : Channel) (entries : List Entry) (known : Bool) → Grown entries (cond known entries (entries ++ fresh new ∷ []))
grown_if new entries true = record { behind = []; grown = sym (append-nil entries) }
grown_if new entries false = record { behind = fresh new ∷ []; grown = refl }

grown_all : (news : List Channel) (entries : List Entry) → Grown entries (fold with_fresh entries news)
grown_all [] entries = record { behind = []; grown = sym (append-nil entries) }
grown_all (new ∷ news) entries =
    let first = grown_if new entries (list_any (is_owner new) entries) in
    let rest = grown_all news (with_fresh entries new) in
    record { behind = first.behind ++ rest.behind; grown = rest.grown ∙ (ap (λ xs. xs ++ rest.behind) first.grown ∙ append_assoc entries first.behind rest.behind) }

abbrev pub meaning_of : List Saying → Saying → Meaning
meaning_of said more = meant (reading said).requests (sense more)

pub entries_grow : (said : List Saying) (more : Saying) → Grown (map (entry_after (meaning_of said more)) (reading said).entries) (read_on (reading said) more).entries
entries_grow said more = grown_all (option_to_list (made_by (meaning_of said more))) (map (entry_after (meaning_of said more)) (reading said).entries)

-- the new ones have endpoints of their own
apart : (x : Entry) (ys : List Entry) → list_any (has_own x.channel) ys ≡ false → AllByRecursion (λ (y : Entry). eqb x.channel.own y.channel.own ≡ false) ys
apart x [] none = tt
apart x (y ∷ ys) none =
    let both = either_false (has_own x.channel y) (list_any (has_own x.channel) ys) none in
    (eqb_other y.channel.own x.channel.own both.0, apart x ys both.1)

abbrev NotAmong : List Entry → Entry → Type 0
NotAmong xs y = list_any (has_own y.channel) xs ≡ false

with_first : (x : Entry) (xs ys : List Entry) → AllByRecursion (λ (y : Entry). eqb x.channel.own y.channel.own ≡ false) ys → AllByRecursion (NotAmong xs) ys → AllByRecursion (NotAmong (x ∷ xs)) ys
with_first x xs [] first rest = tt
with_first x xs (y ∷ ys) (first, firsts) (rest, rests) = (ap (λ b. b || list_any (has_own y.channel) xs) first ∙ rest, with_first x xs ys firsts rests)

none_yet : (ys : List Entry) → AllByRecursion (NotAmong []) ys
none_yet [] = tt
none_yet (y ∷ ys) = (refl, none_yet ys)

new_apart : (xs ys : List Entry) → Alone (xs ++ ys) → AllByRecursion (NotAmong xs) ys
new_apart [] ys all = none_yet ys
new_apart (x ∷ xs) ys (now, all) =
    let both = either_false (list_any (has_own x.channel) xs) (list_any (has_own x.channel) ys) (sym (list_any-append (has_own x.channel) xs ys) ∙ now) in
    with_first x xs ys (apart x ys both.1) (new_apart xs ys all)

-- ---- what is held of each

kept_on : {H : Type 0} (step : ChannelStep H) (none : H) (of : Channel → List Saying → H) → Follows step none of → (said : List Saying) (more : Saying) (entries : List Entry)
    → map (kept_after step (reading said) more) (map (kept_of of said) entries) ≡ map (kept_of of (said ++ more ∷ [])) (map (entry_after (meaning_of said more)) entries)
kept_on step none of follows said more [] = refl
kept_on step none of follows said more (entry ∷ entries) =
    ap (λ state. kept_with state (entry_after (meaning_of said more) entry) ∷ map (kept_after step (reading said) more) (map (kept_of of said) entries)) (sym (follows.grows entry.channel said more))
    ∙ ap (λ rest. kept_of of (said ++ more ∷ []) (entry_after (meaning_of said more) entry) ∷ rest) (kept_on step none of follows said more entries)

kept_anew : {H : Type 0} (step : ChannelStep H) (none : H) (of : Channel → List Saying → H) → Follows step none of → (said : List Saying) (more : Saying) (new : List Entry)
    → AllByRecursion (NotAmong (map (entry_after (meaning_of said more)) (reading said).entries)) new → map (kept_with none) new ≡ map (kept_of of (said ++ more ∷ [])) new
kept_anew step none of follows said more [] apart = refl
kept_anew step none of follows said more (entry ∷ new) (now, apart) =
    ap (λ state. kept_with state entry ∷ map (kept_with none) new) (sym (follows.anew entry.channel said more (sym (owns_stay entry.channel (meaning_of said more) (reading said).entries) ∙ now)))
    ∙ ap (λ rest. kept_of of (said ++ more ∷ []) entry ∷ rest) (kept_anew step none of follows said more new apart)

as_long : {X Y Z : Type 0} (f : X → Y) (g : X → Z) (xs : List X) → length (map f xs) ≡ length (map g xs)
as_long f g [] = refl
as_long f g (x ∷ xs) = ap (λ n. suc n) (as_long f g xs)

entries_back : {H : Type 0} (of : Channel → List Saying → H) (said : List Saying) (entries : List Entry) → map entry_of (map (kept_of of said) entries) ≡ entries
entries_back of said [] = refl
entries_back of said (entry ∷ entries) = ap (λ rest. entry ∷ rest) (entries_back of said entries)

pub held-back : {H : Type 0} (of : Channel → List Saying → H) (said : List Saying) → held_by (pass_back of said) ≡ reading said
held-back of said = ap (λ entries. let held : Reading = record { requests = (reading said).requests; entries = entries } in held) (entries_back of said (reading said).entries)

abbrev pass_to : {H : Type 0} → Requests → List (KeptChannel H) → LinkPass H
pass_to requests kept = record { requests = requests; kept = kept }

-- with what is held of the talk
abbrev with_held : {H : Type 0} → ChannelStep H → H → List (KeptChannel H) → Saying → Reading → LinkPass H
with_held step none kept saying held = pass_to (read_on held saying).requests (map (kept_after step held saying) kept ++ map (kept_with none) (drop (length kept) (read_on held saying).entries))

pub pass-more : {H : Type 0} (step : ChannelStep H) (none : H) (of : Channel → List Saying → H) → Follows step none of → (said : List Saying) (more : Saying)
    → pass_after step none (pass_back of said) more ≡ pass_back of (said ++ more ∷ [])
pass-more step none of follows said more =
    let now = said ++ more ∷ [] in
    let meaning = meaning_of said more in
    let old = (reading said).entries in
    let next = read_on (reading said) more in
    let grows = entries_grow said more in
    let kept = map (kept_of of said) old in
    let entries_are : (reading now).entries ≡ map (entry_after meaning) old ++ grows.behind = ap (λ (r : Reading). r.entries) (reading-more said more) ∙ grows.grown in
    let news : drop (length kept) next.entries ≡ grows.behind =
    ap (drop (length kept)) grows.grown
    ∙ (ap (λ n. drop n (map (entry_after meaning) old ++ grows.behind)) (as_long (kept_of of said) (entry_after meaning) old) ∙ drop_front (map (entry_after meaning) old) grows.behind) in
    ap (with_held step none kept more) (held-back of said)
    ∙ (ap (λ new. pass_to next.requests (map (kept_after step (reading said) more) kept ++ map (kept_with none) new)) news
    ∙ (ap (λ new. pass_to next.requests (map (kept_after step (reading said) more) kept ++ new)) (kept_anew step none of follows said more grows.behind (new_apart (map (entry_after meaning) old) grows.behind (subst Alone entries_are (alone now))))
    ∙ (ap (λ first. pass_to next.requests (first ++ map (kept_of of now) grows.behind)) (kept_on step none of follows said more old)
    ∙ (ap (pass_to next.requests) (sym (map-append (kept_of of now) (map (entry_after meaning) old) grows.behind))
    ∙ (ap (λ entries. pass_to next.requests (map (kept_of of now) entries)) (sym entries_are)
    ∙ ap (λ (held : Reading). pass_to held.requests (map (kept_of of now) (reading now).entries)) (sym (reading-more said more)))))))

pub pass-is : {H : Type 0} (step : ChannelStep H) (none : H) (of : Channel → List Saying → H) → Follows step none of → (said : List Saying) → pass_of step none said ≡ pass_back of said
pass-is {H} step none of follows said = from_end (λ past. pass_of step none past ≡ pass_back of past) refl step_on said
  where
    step_on : (past : List Saying) (more : Saying) → pass_of step none past ≡ pass_back of past → pass_of step none (past ++ more ∷ []) ≡ pass_back of (past ++ more ∷ [])
    step_on past more held =
        fold-append (pass_after step none) (no_pass H) past (more ∷ [])
        ∙ (ap (λ pass. pass_after step none pass more) held ∙ pass-more step none of follows past more)
