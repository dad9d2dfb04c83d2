-- The channels of the object stay pipes at each moment of a list of moves.
use Rattle.std.proofs.Common.{◌≡◌, ℕ, Bool, true, false, ◌||◌, List, [], ◌∷◌, ◌++◌, map, refl, sym, ap, subst, ◌∙◌, append_assoc, append-nil}
use Rattle.std.specs.List.{AllByRecursion, flat_map}
use Rattle.std.proofs.lemmas.List.Concat.{flat_map-append}
use Rattle.pair_laws.specs.push_model.specs.Client.{Client}
use Rattle.pair_laws.specs.push_model.specs.Laws as push
use Rattle.pair_laws.specs.push_model.specs.Laws.{Deed, all_done}
use Rattle.pair_laws.specs.push_model.specs.Server.{object_psm}
use Rattle.pair_laws.specs.push_laws.specs.Occurrences.{Occurrence}
use Rattle.pair_laws.specs.push_laws.specs.Parties.{Move, OfServer, OfClient, of_server, of_client, server_side, client_side, client_after, Pipes, no_pipes, sent_by, heard_by, come_by, gone_by, pipes_after, IsFrontOf, ArePipes, StayPipes}
use Rattle.pair_laws.specs.push_laws.specs.Readings.{closes}
use Rattle.request_laws.specs.BothFed.{ComesNone}
use Rattle.request_laws.specs.Twists.{pipes_behind, NoneBehind}
use Rattle.request_laws.proofs.OnPsm.{come_one, gone_one, heard_one}
use Rattle.request_laws.proofs.Silent.{IsStill, AllSilent}
use Rattle.request_laws.proofs.Feeding.{Shape, Quiet, Single}

-- ---- moves put together

abbrev pub moved : List Move → Client → Client
moved [] client = client
moved (move ∷ moves) client = moved moves (client_after move client)

pub moved_both : (xs ys : List Move) (client : Client) → moved (xs ++ ys) client ≡ moved ys (moved xs client)
moved_both [] ys client = refl
moved_both (x ∷ xs) ys client = moved_both xs ys (client_after x client)

pub pipes_both : (xs ys : List Move) (client : Client) (pipes : Pipes) → pipes_behind (xs ++ ys) client pipes ≡ pipes_behind ys (moved xs client) (pipes_behind xs client pipes)
pipes_both [] ys client pipes = refl
pipes_both (x ∷ xs) ys client pipes = pipes_both xs ys (client_after x client) (pipes_after x client pipes)

pub stay_both : (xs ys : List Move) (client : Client) (pipes : Pipes) → StayPipes xs client pipes → StayPipes ys (moved xs client) (pipes_behind xs client pipes) → StayPipes (xs ++ ys) client pipes
stay_both [] ys client pipes one two = two
stay_both (x ∷ xs) ys client pipes one two = (one.0, one.1, stay_both xs ys (client_after x client) (pipes_after x client pipes) one.2 two)

pub server_both : (xs ys : List Move) → server_side (xs ++ ys) ≡ server_side xs ++ server_side ys
server_both xs ys = flat_map-append of_server xs ys

pub client_both : (xs ys : List Move) → client_side (xs ++ ys) ≡ client_side xs ++ client_side ys
client_both xs ys = flat_map-append of_client xs ys

-- ---- one side alone

abbrev pub by_client : List Deed → List Move
by_client deeds = map OfClient deeds

abbrev pub by_server : List Occurrence → List Move
by_server occurrences = map OfServer occurrences

pub client_moved : (deeds : List Deed) (client : Client) → moved (by_client deeds) client ≡ all_done deeds client
client_moved [] client = refl
client_moved (deed ∷ deeds) client = client_moved deeds (push.done deed client)

pub server_moved : (occurrences : List Occurrence) (client : Client) → moved (by_server occurrences) client ≡ client
server_moved [] client = refl
server_moved (one ∷ rest) client = server_moved rest client

pub client_of_client : (deeds : List Deed) → client_side (by_client deeds) ≡ deeds
client_of_client [] = refl
client_of_client (deed ∷ deeds) = ap (λ (l : List Deed). deed ∷ l) (client_of_client deeds)

pub server_of_client : (deeds : List Deed) → server_side (by_client deeds) ≡ []
server_of_client [] = refl
server_of_client (deed ∷ deeds) = server_of_client deeds

pub server_of_server : (occurrences : List Occurrence) → server_side (by_server occurrences) ≡ occurrences
server_of_server [] = refl
server_of_server (one ∷ rest) = ap (λ (l : List Occurrence). one ∷ l) (server_of_server rest)

pub client_of_server : (occurrences : List Occurrence) → client_side (by_server occurrences) ≡ []
client_of_server [] = refl
client_of_server (one ∷ rest) = client_of_server rest

-- ---- fronts

front_more : (front all more : List (List ℕ)) → IsFrontOf front all → IsFrontOf front (all ++ more)
front_more front all more (behind, is) = (behind ++ more, ap (λ (l : List (List ℕ)). l ++ more) is ∙ append_assoc front behind more)

front_of_front : (front more all : List (List ℕ)) → IsFrontOf (front ++ more) all → IsFrontOf front all
front_of_front front more all (behind, is) = (more ++ behind, is ∙ append_assoc front more behind)

-- ---- the client

-- what a client does and hears alone
pub record Behind (before after : Pipes) : Type 0 where
  sent : List (List ℕ)
  heard : List (List ℕ)
  sent_is : after.requests_sent ≡ before.requests_sent ++ sent
  heard_is : after.responses_come ≡ before.responses_come ++ heard
  come_is : after.requests_come ≡ before.requests_come
  gone_is : after.responses_sent ≡ before.responses_sent

behind_client : (deeds : List Deed) (client : Client) (pipes : Pipes) → Behind pipes (pipes_behind (by_client deeds) client pipes)
behind_client [] client pipes = record { sent = []; heard = []; sent_is = sym (append-nil pipes.requests_sent); heard_is = sym (append-nil pipes.responses_come); come_is = refl; gone_is = refl }
behind_client (deed ∷ deeds) client pipes =
    let later = behind_client deeds (push.done deed client) (pipes_after (OfClient deed) client pipes) in
    record {
      sent = sent_by deed client ++ later.sent;
      heard = heard_by deed ++ later.heard;
      sent_is = later.sent_is ∙ append_assoc pipes.requests_sent (sent_by deed client) later.sent;
      heard_is = later.heard_is ∙ append_assoc pipes.responses_come (heard_by deed) later.heard;
      come_is = later.come_is;
      gone_is = later.gone_is;
    }

pub stay_client : (deeds : List Deed) (client : Client) (pipes : Pipes) → ArePipes pipes → ArePipes (pipes_behind (by_client deeds) client pipes) → StayPipes (by_client deeds) client pipes
stay_client [] client pipes now last = tt
stay_client (deed ∷ deeds) client pipes now last =
    let next = pipes_after (OfClient deed) client pipes in
    let after = pipes_behind (by_client deeds) (push.done deed client) next in
    let later = behind_client deeds (push.done deed client) next in
    let here : ArePipes next = record {
      requests = front_more pipes.requests_come pipes.requests_sent (sent_by deed client) now.requests;
      responses = front_of_front next.responses_come later.heard next.responses_sent (subst (λ (l : List (List ℕ)). IsFrontOf l next.responses_sent) later.heard_is (subst (λ (l : List (List ℕ)). IsFrontOf after.responses_come l) later.gone_is last.responses));
    } in
    (here, tt, stay_client deeds (push.done deed client) next here last)

-- ---- the server

pub stay_quiet : (occurrences : List Occurrence) (client : Client) (pipes : Pipes) → ArePipes pipes → AllByRecursion ComesNone occurrences → StayPipes (by_server occurrences) client pipes
stay_quiet [] client pipes now quiet = tt
stay_quiet (one ∷ rest) client pipes now quiet =
    let next = pipes_after (OfServer one) client pipes in
    let none : come_by one ≡ [] = come_one one ∙ quiet.0 object_psm in
    let here : ArePipes next = record {
      requests = subst (λ (l : List (List ℕ)). IsFrontOf l pipes.requests_sent) (sym (ap (λ (l : List (List ℕ)). pipes.requests_come ++ l) none ∙ append-nil pipes.requests_come)) now.requests;
      responses = front_more pipes.responses_come pipes.responses_sent (gone_by one) now.responses;
    } in
    (here, λ closed. none, stay_quiet rest client next here quiet.1)

pub stay_server : (occurrences : List Occurrence) (client : Client) (pipes : Pipes) → Shape occurrences → ArePipes pipes → ArePipes (pipes_behind (by_server occurrences) client pipes) → (pipes.closed ≡ true → flat_map come_by occurrences ≡ [])
    → StayPipes (by_server occurrences) client pipes
stay_server occurrences client pipes (Quiet quiet) now after open_yet = stay_quiet occurrences client pipes now quiet
stay_server occurrences client pipes (Single one is) now after open_yet =
    subst (λ (l : List Occurrence). StayPipes (by_server l) client pipes) (sym is)
    (subst (λ (l : List Occurrence). ArePipes (pipes_behind (by_server l) client pipes)) is after, λ closed. sym (append-nil (come_by one)) ∙ (ap (flat_map come_by) (sym is) ∙ open_yet closed), tt)

-- ---- behind the end of the server's channel

none_ahead : (xs ys : List (List ℕ)) → xs ++ ys ≡ [] → (xs ≡ []) × (ys ≡ [])
none_ahead [] ys none = (refl, none)
none_ahead (x ∷ xs) ys none = cc

pub closed_client : (deeds : List Deed) (client : Client) (pipes : Pipes) → (pipes_behind (by_client deeds) client pipes).closed ≡ pipes.closed
closed_client [] client pipes = refl
closed_client (deed ∷ deeds) client pipes = closed_client deeds (push.done deed client) (pipes_after (OfClient deed) client pipes)

pub come_cut : (xs ys : List Occurrence) → flat_map come_by (xs ++ ys) ≡ [] → flat_map come_by xs ≡ []
come_cut xs ys none = (none_ahead (flat_map come_by xs) (flat_map come_by ys) (sym (flat_map-append come_by xs ys) ∙ none)).0

pub quiet_after : (occurrences rest : List Occurrence) (client : Client) (pipes : Pipes) → (pipes.closed ≡ true → flat_map come_by (occurrences ++ rest) ≡ []) → NoneBehind (occurrences ++ rest)
    → ((pipes_behind (by_server occurrences) client pipes).closed ≡ true → flat_map come_by rest ≡ []) × NoneBehind rest
quiet_after [] rest client pipes quiet behind = (quiet, behind)
quiet_after (one ∷ occurrences) rest client pipes quiet behind = quiet_after occurrences rest client (pipes_after (OfServer one) client pipes) (next pipes.closed quiet) behind.1
  where
    next : (closed : Bool) → (closed ≡ true → flat_map come_by (one ∷ (occurrences ++ rest)) ≡ []) → (closed || closes object_psm one) ≡ true → flat_map come_by (occurrences ++ rest) ≡ []
    next true before is = (none_ahead (come_by one) (flat_map come_by (occurrences ++ rest)) (before refl)).1
    next false before is = behind.0 is

-- ---- nothing moves

same_pipes : (a b : Pipes) → a.requests_sent ≡ b.requests_sent → a.requests_come ≡ b.requests_come → a.responses_sent ≡ b.responses_sent → a.responses_come ≡ b.responses_come → a.closed ≡ b.closed → a ≡ b
same_pipes a b sent come gone heard closed =
    ap (λ (l : List (List ℕ)). record a { requests_sent = l }) sent
    ∙ (ap (λ (l : List (List ℕ)). record a { requests_sent = b.requests_sent; requests_come = l }) come
    ∙ (ap (λ (l : List (List ℕ)). record a { requests_sent = b.requests_sent; requests_come = b.requests_come; responses_sent = l }) gone
    ∙ (ap (λ (l : List (List ℕ)). record a { requests_sent = b.requests_sent; requests_come = b.requests_come; responses_sent = b.responses_sent; responses_come = l }) heard
    ∙ ap (λ (c : Bool). record b { closed = c }) closed)))

pub or_false : (a b : Bool) → b ≡ false → (a || b) ≡ a
or_false true b is = refl
or_false false b is = is

pub nothing_more : (l more : List (List ℕ)) → more ≡ [] → l ++ more ≡ l
nothing_more l more none = ap (λ (m : List (List ℕ)). l ++ m) none ∙ append-nil l

pub still_pipes : (occurrences : List Occurrence) (client : Client) (pipes : Pipes) → AllByRecursion IsStill occurrences → pipes_behind (by_server occurrences) client pipes ≡ pipes
still_pipes [] client pipes still = refl
still_pipes (one ∷ rest) client pipes still =
    let next = pipes_after (OfServer one) client pipes in
    still_pipes rest client next still.1
    ∙ same_pipes next pipes refl (nothing_more pipes.requests_come (come_by one) (come_one one ∙ still.0.come object_psm)) (nothing_more pipes.responses_sent (gone_by one) (gone_one one ∙ still.0.gone object_psm)) refl (or_false pipes.closed (closes object_psm one) (still.0.open_yet object_psm))

pub silent_pipes : (deeds : List Deed) (client : Client) (pipes : Pipes) → AllSilent deeds client → pipes_behind (by_client deeds) client pipes ≡ pipes
silent_pipes [] client pipes silent = refl
silent_pipes (deed ∷ deeds) client pipes silent =
    let next = pipes_after (OfClient deed) client pipes in
    silent_pipes deeds (push.done deed client) next silent.1
    ∙ same_pipes next pipes (nothing_more pipes.requests_sent (sent_by deed client) silent.0.sent) refl refl (nothing_more pipes.responses_come (heard_by deed) (heard_one deed ∙ silent.0.heard object_psm)) refl

pub still_quiet : (occurrences : List Occurrence) → AllByRecursion IsStill occurrences → AllByRecursion ComesNone occurrences
still_quiet [] still = tt
still_quiet (one ∷ rest) still = (still.0.come, still_quiet rest still.1)

pub no_pipes_are : ArePipes no_pipes
no_pipes_are = record { requests = ([], refl); responses = ([], refl) }
