-- What comes in is not in vain for a request where each copy of it is responded to, and each response ends its wait.
use Rattle.std.proofs.Common.{◌≡◌, ℕ, ◌+◌, ◌≤◌, List, [], ◌∷◌, ◌++◌, drop, Bool, true, false, cond, eqb, ltb, ◌&&◌, ◌||◌, Option, Some, None, Ok, refl, sym, ap, subst, ◌∙◌, ◌⊎◌, inl, inr, arith}
use Rattle.std.specs.List.{list_any}
use Rattle.std.proofs.lemmas.Bool.{eqb-true, le-ltb}
use Rattle.std.proofs.lemmas.List.Sums.{fold-append}
use Rattle.own_channel_laws.specs.talk_laws.specs.acl_fragments.specs.Pieces.{channel_of}
use Rattle.own_channel_laws.specs.talk_laws.specs.capture.specs.Histories.{EachAfter}
use Rattle.own_channel_laws.specs.talk_laws.specs.l2cap_signal.specs.Commands.{Content, Command, reject, connection_request, connection_response, configuration_request, configuration_response, disconnection_request, disconnection_response, echo_request, echo_response, information_request, information_response}
use Rattle.own_channel_laws.specs.talk_laws.specs.l2cap_signal.specs.Reading.{answers}
use Rattle.own_channel_laws.specs.channel_model.specs.declared.errand.Errand.{Errand}
use Rattle.own_channel_laws.specs.channel_model.specs.declared.request_kind.RequestKind.{RequestKind}
use Rattle.own_channel_laws.specs.channel_model.specs.declared.request_kind.RequestKind.TheVariants as kinds
use Rattle.own_channel_laws.specs.channel_model.specs.Value.{Request, Remembered, Channels}
use Rattle.own_channel_laws.specs.channel_model.specs.Policies.{Policy}
use Rattle.own_channel_laws.specs.channel_model.specs.Calls.{has_fcs}
use Rattle.own_channel_laws.specs.channel_model.specs.Changing.{has_room}
use Rattle.own_channel_laws.specs.channel_model.specs.Answers.{answer_to}
use Rattle.own_channel_laws.specs.channel_model.specs.Following.{follows, remembers, says, hears_new, hears_again, hears_kind}
use Rattle.own_channel_laws.specs.channel_model.specs.Giving.{Given, Signal, Whole, Framed, next_given}
use Rattle.own_channel_laws.specs.channel_model.specs.Hearing.{hears_content, hears_command, hears_commands}
use Rattle.own_channel_laws.specs.channel_model.specs.Carrying.{takes}
use Rattle.own_channel_laws.specs.channel_model.proofs.Lookups.{eqb-same}
use Rattle.channel_laws.specs.Adverse.{asks_with, asks_for, responds_to, how_many, is_read_so, brings, answers_so, under_way, falls, is_vain, seen_from, IsHeeded}
use Rattle.channel_laws.specs.Belonging.{IsReadAs, IsRead}
use Rattle.channel_laws.specs.Ends.{end_at}
use Rattle.channel_laws.specs.Heeded.{IsResponse, RespondsTo, EndsWait, IsMetBy, MetIsHeeded}
use Rattle.own_channel_laws.specs.OwnTalk.{command_with, response_by, response_to, command_if, reply_to}
use Rattle.channel_laws.specs.Pairs.{End, Pair, new_pair, Happening, Acts, Puts, Takes, Repeats, Loses, Damages, is_alone, occurs, with_near, puts, let_go, takes_first, repeats_first, loses_first, damages_first, happens_near, Side, Near, Far, turned, Turn, happens_at, pair_after, pair_of}
use Rattle.own_channel_laws.specs.Runs.{Comes, value_after}
use Rattle.own_channel_laws.specs.Signals.{StandsIn}
use Rattle.own_channel_laws.specs.Tries.{request_of, one_if}
use Rattle.own_channel_laws.proofs.Both.{and-left, and-right}
use Rattle.own_channel_laws.proofs.Conversing.{answers-more}
use Rattle.channel_laws.proofs.Costing.{Known, known-at}
use Rattle.channel_laws.proofs.Counting.{many-last, many-answers}
use Rattle.own_channel_laws.proofs.Lasting.{answers_of, Lasts, follows-lasts}
use Rattle.own_channel_laws.proofs.Saying.{stands-either}

-- ---- a reply for which there is room waits

pub some_is : {X : Type 0} (x y : X) → Some x ≡ Some y → x ≡ y
some_is x y is = cc

pub kind_waits : (v : Channels) (last : Option Remembered) (kind : RequestKind) (identifier : ℕ) (fresh : Option Content) (more : Channels → Channels) (content : Content) → ((u : Channels) → Lasts u (more u)) → has_room v ≡ true → response_by last identifier fresh ≡ Some content
    → answers_of (hears_kind last kind identifier fresh more v).queue ≡ answers_of v.queue ++ command_with identifier content ∷ []
kind_waits v last kind identifier fresh more content goes room is = by last is
  where
    said : (w : Channels) → answers_of w.queue ≡ answers_of v.queue → answers_of (says identifier (Some content) w).queue ≡ answers_of v.queue ++ command_with identifier content ∷ []
    said w same = answers-more w.queue (command_with identifier content) ∙ ap (λ cs. cs ++ command_with identifier content ∷ []) same

    new : fresh ≡ Some content → answers_of (hears_new kind identifier fresh more v).queue ≡ answers_of v.queue ++ command_with identifier content ∷ []
    new same =
        let t : Channels = remembers kind identifier (Some content) v in
        ap (λ r. answers_of (hears_new kind identifier r more v).queue) same
        ∙ (ap (λ b. answers_of (cond b (more (says identifier (Some content) t)) v).queue) room ∙ ((goes (says identifier (Some content) t)).2 ∙ said t refl))

    again : (response : Option Content) → response ≡ Some content → answers_of (hears_again identifier response v).queue ≡ answers_of v.queue ++ command_with identifier content ∷ []
    again response same =
        ap (λ r. answers_of (hears_again identifier r v).queue) same ∙ (ap (λ b. answers_of (cond b (says identifier (Some content) v) v).queue) room ∙ said v refl)

    by : (last : Option Remembered) → response_by last identifier fresh ≡ Some content → answers_of (hears_kind last kind identifier fresh more v).queue ≡ answers_of v.queue ++ command_with identifier content ∷ []
    by None is = new is
    by (Some l) is = at (eqb l.identifier identifier) is
      where
        at : (same : Bool) → cond same l.response fresh ≡ Some content
            → answers_of (cond same (hears_again identifier l.response v) (hears_new kind identifier fresh more v)).queue ≡ answers_of v.queue ++ command_with identifier content ∷ []
        at true is = again l.response is
        at false is = new is

pub replied_with : (identifier : ℕ) (response : Option Content) (answer : Command) → command_if identifier response ≡ Some answer → (content : Content) × (response ≡ Some content) × (command_with identifier content ≡ answer)
replied_with identifier None answer is = cc
replied_with identifier (Some content) answer is = (content, refl, some_is (command_with identifier content) answer is)

pub copy_waits : (policy : Policy) (e : Errand) (identifier : ℕ) (command answer : Command) (v : Channels) → asks_for e identifier command ≡ true → reply_to policy (Ok command) v ≡ Some answer → has_room v ≡ true
    → answers_of (hears_command policy (Ok command) v).queue ≡ answers_of v.queue ++ answer ∷ []
copy_waits policy e identifier command answer v asks is room =
    let (content, response_is, answer_is) = replied_with command.identifier (response_to policy command.identifier command.content v) answer is in
    by e command.content (and-right (eqb command.identifier identifier) (asks_with e command.content) asks) content response_is ∙ ap (λ (c : Command). answers_of v.queue ++ c ∷ []) answer_is
  where
    by : (e : Errand) (asked : Content) → asks_with e asked ≡ true → (content : Content) → response_to policy command.identifier asked v ≡ Some content
        → answers_of (hears_content policy command.identifier asked v).queue ≡ answers_of v.queue ++ command_with command.identifier content ∷ []
    by e (reject reason rest) so content at = cc
    by e (connection_request psm source) so content at =
        let c : Content = connection_request psm source in kind_waits v v.memory.connection kinds.Connection command.identifier (answer_to policy c v) (follows policy c) content (follows-lasts policy c) room at
    by e (connection_response destination source result status) so content at = cc
    by e (configuration_request destination flags options) so content at =
        let c : Content = configuration_request destination flags options in kind_waits v v.memory.configuration kinds.Configuration command.identifier (answer_to policy c v) (follows policy c) content (follows-lasts policy c) room at
    by e (configuration_response source flags result options) so content at = cc
    by e (disconnection_request destination source) so content at =
        let c : Content = disconnection_request destination source in kind_waits v v.memory.disconnection kinds.Disconnection command.identifier (answer_to policy c v) (follows policy c) content (follows-lasts policy c) room at
    by e (disconnection_response destination source) so content at = cc
    by e (echo_request octets) so content at = let c : Content = echo_request octets in kind_waits v v.memory.echo kinds.Echo command.identifier (answer_to policy c v) (follows policy c) content (follows-lasts policy c) room at
    by e (echo_response octets) so content at = cc
    by e (information_request kind) so content at =
        let c : Content = information_request kind in kind_waits v v.memory.information kinds.Information command.identifier (answer_to policy c v) (follows policy c) content (follows-lasts policy c) room at
    by e (information_response kind result rest) so content at = cc

-- ---- one command is read of each PDU on the signalling channel

abbrev pub ReadsOne : List ℕ → Type 0
ReadsOne pdu = eqb (channel_of pdu) 0x0001 ≡ true → (command : Command) × (answers (drop 4 pdu) ≡ Ok command ∷ [])

abbrev pub AllRead : List (List ℕ) → Type 0
AllRead coming = (pdu : List ℕ) → StandsIn pdu coming → ReadsOne pdu

pub record BothRead (pair : Pair) : Type 0 where
  pub near : AllRead pair.near.coming
  pub far : AllRead pair.far.coming

pub given_reads : (given : Given) (pdu : List ℕ) → IsReadAs (Some given) pdu → ReadsOne pdu
given_reads (Signal command) pdu read signals = (command, read)
given_reads (Whole peer sdu) pdu read signals = let never : true ≡ false = sym signals ∙ read in absurd cc
given_reads (Framed peer frame) pdu read signals = let never : true ≡ false = sym signals ∙ read in absurd cc

pub more_read : (coming : List (List ℕ)) (pdu : List ℕ) → ReadsOne pdu → AllRead coming → AllRead (coming ++ pdu ∷ [])
more_read coming pdu one all other stands = by (stands-either other coming (pdu ∷ []) stands)
  where
    by : StandsIn other coming ⊎ StandsIn other (pdu ∷ []) → ReadsOne other
    by (inl old) = all other old
    by (inr (inl same)) = subst ReadsOne same one
    by (inr (inr none)) = elim none [ ]

pub rest_reads : (pdu : List ℕ) (coming rest : List (List ℕ)) → coming ≡ pdu ∷ rest → AllRead coming → AllRead rest
rest_reads pdu coming rest is all other stands = all other (subst (StandsIn other) (sym is) (inr stands))

pub near_reads : (pair : Pair) (end' : End) → AllRead end'.coming → BothRead pair → BothRead (with_near end' pair)
near_reads pair end' all both = record { near = all; far = both.far }

pub puts_reads : (given : Option Given) (pdu : List ℕ) (pair : Pair) → IsReadAs given pdu → BothRead pair → BothRead (puts given pdu pair)
puts_reads None pdu pair read both = both
puts_reads (Some given) pdu pair read both = record { near = both.near; far = more_read pair.far.coming pdu (given_reads given pdu read) both.far }

pub turn_reads : (happening : Happening) (pair : Pair) → IsRead happening pair.near → BothRead pair → BothRead (happens_near happening pair)
turn_reads (Acts more) pair read both = by (is_alone more)
  where
    by : (alone : Bool) → BothRead (cond alone (with_near (occurs more pair.near) pair) pair)
    by true = near_reads pair (occurs more pair.near) both.near both
    by false = both
turn_reads (Puts pdu) pair read both = puts_reads (next_given pair.near.run.value) pdu pair read both
turn_reads Takes pair read both = by pair.near.coming refl
  where
    by : (coming : List (List ℕ)) → pair.near.coming ≡ coming → BothRead (with_near (takes_first coming pair.near) pair)
    by [] is = near_reads pair pair.near both.near both
    by (pdu ∷ coming) is = near_reads pair (occurs (Comes pdu) (let_go coming pair.near)) (rest_reads pdu pair.near.coming coming is both.near) both
turn_reads Repeats pair read both = by pair.near.coming
  where
    by : (coming : List (List ℕ)) → BothRead (with_near (repeats_first coming pair.near) pair)
    by [] = near_reads pair pair.near both.near both
    by (pdu ∷ coming) = near_reads pair (occurs (Comes pdu) pair.near) both.near both
turn_reads Loses pair read both = by pair.near.coming refl
  where
    by : (coming : List (List ℕ)) → pair.near.coming ≡ coming → BothRead (with_near (loses_first coming pair.near) pair)
    by [] is = near_reads pair pair.near both.near both
    by (pdu ∷ coming) is = near_reads pair (let_go coming pair.near) (rest_reads pdu pair.near.coming coming is both.near) both
turn_reads (Damages other) pair read both = by pair.near.coming refl
  where
    by : (coming : List (List ℕ)) → pair.near.coming ≡ coming → BothRead (with_near (damages_first other coming pair.near) pair)
    by [] is = near_reads pair pair.near both.near both
    by (pdu ∷ coming) is = at (has_fcs (channel_of pdu) pair.near.run.value)
      where
        at : (checked : Bool) → BothRead (with_near (cond checked (occurs (Comes other) (let_go coming pair.near)) (let_go coming pair.near)) pair)
        at true = near_reads pair (occurs (Comes other) (let_go coming pair.near)) (rest_reads pdu pair.near.coming coming is both.near) both
        at false = near_reads pair (let_go coming pair.near) (rest_reads pdu pair.near.coming coming is both.near) both

pub turned_reads : (pair : Pair) → BothRead pair → BothRead (turned pair)
turned_reads pair both = record { near = both.far; far = both.near }

pub one_reads : (pair : Pair) (turn : Turn) → IsRead turn.happening (end_at turn.side pair) → BothRead pair → BothRead (pair_after pair turn)
one_reads pair turn read both = by turn.side read
  where
    by : (at : Side) → IsRead turn.happening (end_at at pair) → BothRead (happens_at at turn.happening pair)
    by Near read = turn_reads turn.happening pair read both
    by Far read = turned_reads (happens_near turn.happening (turned pair)) (turn_reads turn.happening (turned pair) read (turned_reads pair both))

-- ---- nothing falls

pub not_vain : (e : Errand) (before after : Pair)
    → ((r r' : Request) → request_of e before.near.run.value ≡ Some r → request_of e after.near.run.value ≡ Some r' → r.identifier ≡ r'.identifier → under_way e r'.identifier before ≤ under_way e r'.identifier after)
    → is_vain e before after ≡ false
not_vain e before after least = by (request_of e before.near.run.value) (request_of e after.near.run.value) refl refl
  where
    by : (was now : Option Request) → request_of e before.near.run.value ≡ was → request_of e after.near.run.value ≡ now → falls e before after was now ≡ false
    by None now was_is now_is = refl
    by (Some r) None was_is now_is = refl
    by (Some r) (Some r') was_is now_is = at (eqb r.identifier r'.identifier) refl
      where
        at : (same : Bool) → eqb r.identifier r'.identifier ≡ same → (same && ltb (under_way e r'.identifier after) (under_way e r'.identifier before)) ≡ false
        at true is = le-ltb (under_way e r'.identifier after) (under_way e r'.identifier before) (least r r' was_is now_is (eqb-true r.identifier r'.identifier is))
        at false is = refl

-- a PDU that brings a command is read as that one
pub brought : (is : Command → Bool) (pdu : List ℕ) → ReadsOne pdu → brings is pdu ≡ true → (command : Command) × (answers (drop 4 pdu) ≡ Ok command ∷ []) × (is command ≡ true) × (eqb (channel_of pdu) 0x0001 ≡ true)
brought is pdu reads so =
    let signals : eqb (channel_of pdu) 0x0001 ≡ true = and-left (eqb (channel_of pdu) 0x0001) (list_any (is_read_so is) (answers (drop 4 pdu))) so in
    let any : list_any (is_read_so is) (answers (drop 4 pdu)) ≡ true = and-right (eqb (channel_of pdu) 0x0001) (list_any (is_read_so is) (answers (drop 4 pdu))) so in
    let (command, read) = reads signals in
    (command, read, only (is command) (sym (ap (list_any (is_read_so is)) read) ∙ any), signals)
  where
    only : (b : Bool) → (b || false) ≡ true → b ≡ true
    only true is = refl
    only false is = cc

-- and it is heard
pub heard_one : (policy : Policy) (pdu : List ℕ) (command : Command) (v : Channels) → eqb (channel_of pdu) 0x0001 ≡ true → answers (drop 4 pdu) ≡ Ok command ∷ [] → value_after policy (Comes pdu) v ≡ hears_command policy (Ok command) v
heard_one policy pdu command v signals read =
    ap (λ b. cond b (hears_commands policy (answers (drop 4 pdu)) v) (takes (channel_of pdu) pdu v)) signals ∙ ap (λ list. hears_commands policy list v) read

pub owner_meets : (e : Errand) (pair : Pair) (coming : List (List ℕ)) → pair.near.coming ≡ coming → AllRead coming → EndsWait e coming pair → is_vain e pair (with_near (takes_first coming pair.near) pair) ≡ false
owner_meets e pair [] is reads ends = not_vain e pair (with_near pair.near pair) (λ r r' was now same. rw (← same) (omega arith))
owner_meets e pair (pdu ∷ coming) is reads ends = not_vain e pair after (λ r r' was now same. by r r' was now same (brings (responds_to e r'.identifier) pdu) refl)
  where
    after : Pair
    after = with_near (occurs (Comes pdu) (let_go coming pair.near)) pair

    by : (r r' : Request) → request_of e pair.near.run.value ≡ Some r → request_of e after.near.run.value ≡ Some r' → r.identifier ≡ r'.identifier → (b : Bool) → brings (responds_to e r'.identifier) pdu ≡ b → under_way e r'.identifier pair ≤ under_way e r'.identifier after
    by r r' was now same true so =
        let (command, read, responds, signals) = brought (responds_to e r'.identifier) pdu (reads pdu (inl refl)) so in
        let heard = heard_one pair.near.policy pdu command pair.near.run.value signals read in
        let ended = ends command r signals read was (subst (λ n. responds_to e n command ≡ true) (sym same) responds) r' (sym (ap (request_of e) heard) ∙ now) in
        let never : true ≡ false = sym (ap (λ n. eqb r'.identifier n) same ∙ eqb-same r'.identifier) ∙ ended in absurd cc
    by r r' was now same false so =
        let first : how_many (brings (responds_to e r'.identifier)) pair.near.coming ≡ one_if (brings (responds_to e r'.identifier) pdu) + how_many (brings (responds_to e r'.identifier)) coming = ap (how_many (brings (responds_to e r'.identifier))) is in
        let none : one_if (brings (responds_to e r'.identifier) pdu) ≡ 0 = ap one_if so in
        omega (arith, first, none)

pub peer_meets : (e : Errand) (pair : Pair) (coming : List (List ℕ)) → pair.near.coming ≡ coming → Known pair.near → AllRead coming → RespondsTo e coming (turned pair) → is_vain e (turned pair) (turned (with_near (takes_first coming pair.near) pair)) ≡ false
peer_meets e pair [] is known reads responds = not_vain e (turned pair) (turned (with_near pair.near pair)) (λ r r' was now same. omega arith)
peer_meets e pair (pdu ∷ coming) is known reads responds =
    not_vain e (turned pair) (turned (with_near end' pair)) (λ r r' was now same. subst (λ n. under_way e n (turned pair) ≤ under_way e n (turned (with_near end' pair))) same (by r was (brings (asks_for e r.identifier) pdu) refl))
  where
    v : Channels
    v = pair.near.run.value

    end' : End
    end' = occurs (Comes pdu) (let_go coming pair.near)

    first : (identifier : ℕ) → how_many (brings (asks_for e identifier)) pair.near.coming ≡ one_if (brings (asks_for e identifier) pdu) + how_many (brings (asks_for e identifier)) coming
    first identifier = ap (how_many (brings (asks_for e identifier))) is

    -- the reply to the copy waits
    replied : (identifier : ℕ) (command : Command) → asks_for e identifier command ≡ true → answers (drop 4 pdu) ≡ Ok command ∷ [] → eqb (channel_of pdu) 0x0001 ≡ true → (reply : Option Command) → reply_to pair.near.policy (Ok command) v ≡ reply → IsResponse e identifier reply v
        → how_many (answers_so (responds_to e identifier)) end'.run.value.queue ≡ how_many (answers_so (responds_to e identifier)) v.queue + 1
    replied identifier command asks read signals None at none = absurd none
    replied identifier command asks read signals (Some answer) at (so, room) =
        let heard = heard_one pair.near.policy pdu command v signals read in
        let waits : answers_of end'.run.value.queue ≡ answers_of v.queue ++ answer ∷ [] = ap (λ (w : Channels). answers_of w.queue) heard ∙ copy_waits pair.near.policy e identifier command answer v asks at room in
        let after = many-answers (responds_to e identifier) end'.run.value.queue in
        let before = many-answers (responds_to e identifier) v.queue in
        let whole : how_many (responds_to e identifier) (answers_of end'.run.value.queue) ≡ how_many (responds_to e identifier) (answers_of v.queue) + one_if (responds_to e identifier answer)
        = ap (how_many (responds_to e identifier)) waits ∙ many-last (responds_to e identifier) (answers_of v.queue) answer in
        let one : one_if (responds_to e identifier answer) ≡ 1 = ap one_if so in
        omega (arith, after, before, whole, one)

    by : (r : Request) → request_of e pair.far.run.value ≡ Some r → (b : Bool) → brings (asks_for e r.identifier) pdu ≡ b → under_way e r.identifier (turned pair) ≤ under_way e r.identifier (turned (with_near end' pair))
    by r was true so =
        let (command, read, asks, signals) = brought (asks_for e r.identifier) pdu (reads pdu (inl refl)) so in
        let more = replied r.identifier command asks read signals (reply_to pair.near.policy (Ok command) v) refl (responds command r signals read was asks) in
        let shift = first r.identifier in
        let one : one_if (brings (asks_for e r.identifier) pdu) ≡ 1 = ap one_if so in
        omega (arith, more, shift, one)
    by r was false so =
        let shift = first r.identifier in
        let none : one_if (brings (asks_for e r.identifier) pdu) ≡ 0 = ap one_if so in
        let stay = known.stay (responds_to e r.identifier) (Comes pdu) refl in
        omega (arith, shift, none, stay)

-- ---- each turn

pub meets_one : (e : Errand) (owner at : Side) (happening : Happening) (pair : Pair) → Known (end_at at pair) → BothRead pair → IsMetBy e owner at happening pair → IsHeeded e happening (seen_from owner pair) (seen_from owner (happens_at at happening pair))
meets_one e owner at (Acts more) pair known reads met = tt
meets_one e owner at (Puts pdu) pair known reads met = tt
meets_one e Near Near Takes pair known reads met = owner_meets e pair pair.near.coming refl reads.near met
meets_one e Near Far Takes pair known reads met = peer_meets e (turned pair) pair.far.coming refl known reads.far met
meets_one e Far Near Takes pair known reads met = peer_meets e pair pair.near.coming refl known reads.near met
meets_one e Far Far Takes pair known reads met = owner_meets e (turned pair) pair.far.coming refl reads.far met
meets_one e owner at Repeats pair known reads met = tt
meets_one e owner at Loses pair known reads met = tt
meets_one e owner at (Damages pdu) pair known reads met = tt

pub meets_all : (e : Errand) (owner : Side) (near far : Policy) (past turns : List Turn) → BothRead (pair_of near far past)
    → EachAfter (λ front turn. IsRead turn.happening (end_at turn.side (pair_of near far front))) past turns
    → EachAfter (λ front turn. IsMetBy e owner turn.side turn.happening (pair_of near far front)) past turns
    → EachAfter (λ front turn. IsHeeded e turn.happening (seen_from owner (pair_of near far front)) (seen_from owner (pair_after (pair_of near far front) turn))) past turns
meets_all e owner near far past [] reads read met = tt
meets_all e owner near far past (turn ∷ turns) reads (read, later) (met, more) = (
  meets_one e owner turn.side turn.happening (pair_of near far past) (known-at near far past turn.side) reads met,
  meets_all e owner near far (past ++ turn ∷ []) turns (subst BothRead (sym (fold-append pair_after (new_pair near far) past (turn ∷ []))) (one_reads (pair_of near far past) turn read reads)) later more,
)

pub met-is_heeded : MetIsHeeded
met-is_heeded near far turns read side errand met = meets_all errand side near far [] turns (record { near = λ pdu none. elim none [ ]; far = λ pdu none. elim none [ ] }) read met
