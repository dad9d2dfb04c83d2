-- What both hosts went through stands in the order of what happened to their channels.
use Rattle.std.proofs.Common.{◌≡◌, List, [], ◌∷◌, ◌++◌, map, Option, Some, None, refl, sym, ap, ap₂, ◌∙◌, append_assoc, append-nil}
use Rattle.std.specs.List.{flat_map}
use Rattle.std.proofs.lemmas.List.Concat.{flat_map-append}
use Rattle.pair_laws.specs.channel_model.specs.Value.{Channels}
use Rattle.pair_laws.specs.channel_laws.specs.Runs.{Occurrence, Comes, Gives, Fires, Tells}
use Rattle.pair_laws.specs.host_model.specs.Clients.{ClientProfile, client_profile}
use Rattle.pair_laws.specs.host_model.specs.Profiles.{Profile}
use Rattle.pair_laws.specs.host_model.specs.Servers.{ServerProfile, server_profile}
use Rattle.pair_laws.specs.host_laws.specs.Calls.{Call, Asks, occurrence_of, from_call}
use Rattle.pair_laws.specs.host_laws.specs.Woven.{Strand, Hearing, Giving, Firing, Telling, Gifting, Learning, Checking, Stepping, strand_list, woven_list}
use Rattle.pair_laws.specs.Orders.{Joint, AtNear, AtFar, near_in, far_in}
use Rattle.request_laws.specs.Joined.{twist_joints, joints_of, JoinedAreTwined}
use Rattle.request_laws.specs.Twists.{Twist, AtClient, AtServer, of_client, of_server, Both, new_both, Set, both_after}

-- ---- at most one occurrence with each thing

data AtMostOne (list : List Occurrence) : Type 0 where
  NoneThere : list ≡ [] → AtMostOne list
  OneThere : (one : Occurrence) → list ≡ one ∷ [] → AtMostOne list

call_once : (call : Option Call) → AtMostOne (from_call call)
call_once None = NoneThere refl
call_once (Some call) = OneThere (occurrence_of call) refl

strand_once : {P : Type 0} (A : Profile P) (asks : Asks A) (strand : Strand) (v : Channels) (p : P) → AtMostOne (strand_list A asks strand v p)
strand_once A asks (Hearing pdu) v p = OneThere (Comes pdu) refl
strand_once A asks (Giving pdu) v p = OneThere (Gives pdu) refl
strand_once A asks Firing v p = OneThere Fires refl
strand_once A asks Telling v p = OneThere Tells refl
strand_once A asks (Gifting circumstances) v p = NoneThere refl
strand_once A asks (Learning circumstances news) v p = NoneThere refl
strand_once A asks Checking v p = NoneThere refl
strand_once A asks Stepping v p = call_once (asks.call v p)

module _ (set : Set) where
  abbrev near_list : List Strand → Both → List Occurrence
  near_list weave both = woven_list (client_profile set.settings) (set.asks.clients set.settings) weave both.near both.client

  abbrev far_list : List Strand → Both → List Occurrence
  far_list weave both = woven_list (server_profile set.settings set.content) (set.asks.servers set.settings set.content) weave both.far both.server

  abbrev by_near : List Strand → List Twist
  by_near weave = map AtClient weave

  abbrev by_far : List Strand → List Twist
  by_far weave = map AtServer weave

  abbrev behind : List Twist → Both → Both
  behind [] both = both
  behind (twist ∷ twists) both = behind twists (both_after set twist both)

  joints_both : (xs ys : List Twist) (both : Both) → joints_of set (xs ++ ys) both ≡ joints_of set xs both ++ joints_of set ys (behind xs both)
  joints_both [] ys both = refl
  joints_both (x ∷ xs) ys both =
      let next = both_after set x both in
      ap (λ (l : List Joint). twist_joints set x both ++ l) (joints_both xs ys next) ∙ sym (append_assoc (twist_joints set x both) (joints_of set xs next) (joints_of set ys (behind xs next)))

  map_both : (f : Occurrence → Joint) (xs ys : List Occurrence) → map f (xs ++ ys) ≡ map f xs ++ map f ys
  map_both f [] ys = refl
  map_both f (x ∷ xs) ys = ap (λ (l : List Joint). f x ∷ l) (map_both f xs ys)

  -- ---- one host alone

  near_joints : (weave : List Strand) (both : Both) → joints_of set (by_near weave) both ≡ map AtNear (near_list weave both)
  near_joints [] both = refl
  near_joints (strand ∷ weave) both =
      let here = strand_list (client_profile set.settings) (set.asks.clients set.settings) strand both.near both.client in
      let next = both_after set (AtClient strand) both in
      ap (λ (l : List Joint). map AtNear here ++ l) (near_joints weave next) ∙ sym (map_both AtNear here (near_list weave next))

  far_joints : (weave : List Strand) (both : Both) → joints_of set (by_far weave) both ≡ map AtFar (far_list weave both)
  far_joints [] both = refl
  far_joints (strand ∷ weave) both =
      let here = strand_list (server_profile set.settings set.content) (set.asks.servers set.settings set.content) strand both.far both.server in
      let next = both_after set (AtServer strand) both in
      ap (λ (l : List Joint). map AtFar here ++ l) (far_joints weave next) ∙ sym (map_both AtFar here (far_list weave next))

  -- the other one stays as it is
  record FarSame (one two : Both) : Type 0 where
    far : two.far ≡ one.far
    server : two.server ≡ one.server

  record NearSame (one two : Both) : Type 0 where
    near : two.near ≡ one.near
    client : two.client ≡ one.client

  far_same : (weave : List Strand) (both : Both) → FarSame both (behind (by_near weave) both)
  far_same [] both = record { far = refl; server = refl }
  far_same (strand ∷ weave) both = let rest = far_same weave (both_after set (AtClient strand) both) in record { far = rest.far; server = rest.server }

  near_same : (weave : List Strand) (both : Both) → NearSame both (behind (by_far weave) both)
  near_same [] both = record { near = refl; client = refl }
  near_same (strand ∷ weave) both = let rest = near_same weave (both_after set (AtServer strand) both) in record { near = rest.near; client = rest.client }

  -- ---- up to the next occurrence

  record NextNear (weave : List Strand) (both : Both) (one : Occurrence) (rest : List Occurrence) : Type 0 where
    now : List Strand
    later : List Strand
    weave_is : now ++ later ≡ weave
    one_is : near_list now both ≡ one ∷ []
    rest_is : rest ≡ near_list later (behind (by_near now) both)

  next_near : (weave : List Strand) (both : Both) (one : Occurrence) (rest : List Occurrence) → one ∷ rest ≡ near_list weave both → NextNear weave both one rest
  next_near [] both one rest is = cc
  next_near (strand ∷ weave) both one rest is =
      let A = client_profile set.settings in
      let asks = set.asks.clients set.settings in
      let next = both_after set (AtClient strand) both in
      on (strand_once A asks strand both.near both.client) (λ none. next_near weave next one rest (is ∙ ap (λ (l : List Occurrence). l ++ near_list weave next) none))
    where
      here : List Occurrence
      here = strand_list (client_profile set.settings) (set.asks.clients set.settings) strand both.near both.client

      first : (x y : Occurrence) (xs ys : List Occurrence) → x ∷ xs ≡ y ∷ ys → x ≡ y
      first x y xs ys e = cc

      others : (x y : Occurrence) (xs ys : List Occurrence) → x ∷ xs ≡ y ∷ ys → xs ≡ ys
      others x y xs ys e = cc

      on : AtMostOne here → (here ≡ [] → NextNear weave (both_after set (AtClient strand) both) one rest) → NextNear (strand ∷ weave) both one rest
      on (NoneThere none) more =
          let so = more none in
          record {
            now = strand ∷ so.now;
            later = so.later;
            weave_is = ap (λ (l : List Strand). strand ∷ l) so.weave_is;
            one_is = ap (λ (l : List Occurrence). l ++ near_list so.now (both_after set (AtClient strand) both)) none ∙ so.one_is;
            rest_is = so.rest_is;
          }
      on (OneThere found some) more =
          let next = both_after set (AtClient strand) both in
          let split : one ∷ rest ≡ found ∷ near_list weave next = is ∙ ap (λ (l : List Occurrence). l ++ near_list weave next) some in
          record {
            now = strand ∷ [];
            later = weave;
            weave_is = refl;
            one_is = append-nil here ∙ (some ∙ ap (λ (x : Occurrence). x ∷ []) (sym (first one found rest (near_list weave next) split)));
            rest_is = others one found rest (near_list weave next) split;
          }

  record NextFar (weave : List Strand) (both : Both) (one : Occurrence) (rest : List Occurrence) : Type 0 where
    now : List Strand
    later : List Strand
    weave_is : now ++ later ≡ weave
    one_is : far_list now both ≡ one ∷ []
    rest_is : rest ≡ far_list later (behind (by_far now) both)

  next_far : (weave : List Strand) (both : Both) (one : Occurrence) (rest : List Occurrence) → one ∷ rest ≡ far_list weave both → NextFar weave both one rest
  next_far [] both one rest is = cc
  next_far (strand ∷ weave) both one rest is =
      let B = server_profile set.settings set.content in
      let asks = set.asks.servers set.settings set.content in
      let next = both_after set (AtServer strand) both in
      on (strand_once B asks strand both.far both.server) (λ none. next_far weave next one rest (is ∙ ap (λ (l : List Occurrence). l ++ far_list weave next) none))
    where
      here : List Occurrence
      here = strand_list (server_profile set.settings set.content) (set.asks.servers set.settings set.content) strand both.far both.server

      first : (x y : Occurrence) (xs ys : List Occurrence) → x ∷ xs ≡ y ∷ ys → x ≡ y
      first x y xs ys e = cc

      others : (x y : Occurrence) (xs ys : List Occurrence) → x ∷ xs ≡ y ∷ ys → xs ≡ ys
      others x y xs ys e = cc

      on : AtMostOne here → (here ≡ [] → NextFar weave (both_after set (AtServer strand) both) one rest) → NextFar (strand ∷ weave) both one rest
      on (NoneThere none) more =
          let so = more none in
          record {
            now = strand ∷ so.now;
            later = so.later;
            weave_is = ap (λ (l : List Strand). strand ∷ l) so.weave_is;
            one_is = ap (λ (l : List Occurrence). l ++ far_list so.now (both_after set (AtServer strand) both)) none ∙ so.one_is;
            rest_is = so.rest_is;
          }
      on (OneThere found some) more =
          let next = both_after set (AtServer strand) both in
          let split : one ∷ rest ≡ found ∷ far_list weave next = is ∙ ap (λ (l : List Occurrence). l ++ far_list weave next) some in
          record {
            now = strand ∷ [];
            later = weave;
            weave_is = refl;
            one_is = append-nil here ∙ (some ∙ ap (λ (x : Occurrence). x ∷ []) (sym (first one found rest (far_list weave next) split)));
            rest_is = others one found rest (far_list weave next) split;
          }

  -- ---- all of them

  pub record Lifted (joints : List Joint) (near far : List Strand) (both : Both) : Type 0 where
    pub twists : List Twist
    pub near_is : flat_map of_client twists ≡ near
    pub far_is : flat_map of_server twists ≡ far
    pub joints_are : joints_of set twists both ≡ joints

  client_near : (weave : List Strand) → flat_map of_client (by_near weave) ≡ weave
  client_near [] = refl
  client_near (strand ∷ weave) = ap (λ (l : List Strand). strand ∷ l) (client_near weave)

  server_near : (weave : List Strand) → flat_map of_server (by_near weave) ≡ []
  server_near [] = refl
  server_near (strand ∷ weave) = server_near weave

  client_far : (weave : List Strand) → flat_map of_client (by_far weave) ≡ []
  client_far [] = refl
  client_far (strand ∷ weave) = client_far weave

  server_far : (weave : List Strand) → flat_map of_server (by_far weave) ≡ weave
  server_far [] = refl
  server_far (strand ∷ weave) = ap (λ (l : List Strand). strand ∷ l) (server_far weave)

  pub lift : (joints : List Joint) (near far : List Strand) (both : Both) → flat_map near_in joints ≡ near_list near both → flat_map far_in joints ≡ far_list far both → Lifted joints near far both
  lift [] near far both is_near is_far =
      let mid = behind (by_near near) both in
      let same = far_same near both in
      record {
        twists = by_near near ++ by_far far;
        near_is = flat_map-append of_client (by_near near) (by_far far) ∙ (ap₂ (λ (a b : List Strand). a ++ b) (client_near near) (client_far far) ∙ append-nil near);
        far_is = flat_map-append of_server (by_near near) (by_far far) ∙ ap₂ (λ (a b : List Strand). a ++ b) (server_near near) (server_far far);
        joints_are = joints_both (by_near near) (by_far far) both
            ∙ ap₂ (λ (a b : List Joint). a ++ b) (near_joints near both ∙ ap (map AtNear) (sym is_near))
            (far_joints far mid ∙ (ap (map AtFar) (ap₂ (λ (v : Channels) (p : ServerProfile). woven_list (server_profile set.settings set.content) (set.asks.servers set.settings set.content) far v p) same.far same.server) ∙ ap (map AtFar) (sym is_far)));
      }
  lift (AtNear one ∷ joints) near far both is_near is_far =
      let next = next_near near both one (flat_map near_in joints) is_near in
      let mid = behind (by_near next.now) both in
      let same = far_same next.now both in
      let rest = lift joints next.later far mid next.rest_is
      (is_far ∙ sym (ap₂ (λ (v : Channels) (p : ServerProfile). woven_list (server_profile set.settings set.content) (set.asks.servers set.settings set.content) far v p) same.far same.server)) in
      record {
        twists = by_near next.now ++ rest.twists;
        near_is = flat_map-append of_client (by_near next.now) rest.twists ∙ (ap₂ (λ (a b : List Strand). a ++ b) (client_near next.now) rest.near_is ∙ next.weave_is);
        far_is = flat_map-append of_server (by_near next.now) rest.twists ∙ ap₂ (λ (a b : List Strand). a ++ b) (server_near next.now) rest.far_is;
        joints_are = joints_both (by_near next.now) rest.twists both ∙ ap₂ (λ (a b : List Joint). a ++ b) (near_joints next.now both ∙ ap (map AtNear) next.one_is) rest.joints_are;
      }
  lift (AtFar one ∷ joints) near far both is_near is_far =
      let next = next_far far both one (flat_map far_in joints) is_far in
      let mid = behind (by_far next.now) both in
      let same = near_same next.now both in
      let rest = lift joints near next.later mid
      (is_near ∙ sym (ap₂ (λ (v : Channels) (p : ClientProfile). woven_list (client_profile set.settings) (set.asks.clients set.settings) near v p) same.near same.client)) next.rest_is in
      record {
        twists = by_far next.now ++ rest.twists;
        near_is = flat_map-append of_client (by_far next.now) rest.twists ∙ ap₂ (λ (a b : List Strand). a ++ b) (client_far next.now) rest.near_is;
        far_is = flat_map-append of_server (by_far next.now) rest.twists ∙ (ap₂ (λ (a b : List Strand). a ++ b) (server_far next.now) rest.far_is ∙ next.weave_is);
        joints_are = joints_both (by_far next.now) rest.twists both ∙ ap₂ (λ (a b : List Joint). a ++ b) (far_joints next.now both ∙ ap (map AtFar) next.one_is) rest.joints_are;
      }

pub joined_are_twined : JoinedAreTwined
joined_are_twined set near far client server joined =
    let all = lift set joined.joints near far (new_both client server) joined.near_is joined.far_is in
    record { twists = all.twists; near_is = all.near_is; far_is = all.far_is; opens = joined.opens; piped = joined.piped all.twists all.joints_are; behind = joined.behind }
