-- Counting what is under way, and that an answer that waits is kept until it is given.
use Rattle.std.proofs.Common.{◌≡◌, ℕ, ◌+◌, ◌≤◌, List, [], ◌∷◌, ◌++◌, length, Bool, true, false, Option, refl, sym, ap, subst, ◌∙◌, inl, inr, arith}
use Rattle.std.specs.List.{list_any}
use Rattle.own_channel_laws.specs.talk_laws.specs.acl_fragments.specs.Pieces.{channel_of}
use Rattle.own_channel_laws.specs.talk_laws.specs.link_talk.specs.Sayings.{Saying}
use Rattle.own_channel_laws.specs.talk_laws.specs.l2cap_signal.specs.Commands.{Content, Command}
use Rattle.own_channel_laws.specs.channel_model.specs.Value.{Queued, Answer, Ask, Channels}
use Rattle.own_channel_laws.specs.channel_model.specs.Policies.{Policy}
use Rattle.own_channel_laws.specs.channel_model.specs.Changing.{held_at, is_answer}
use Rattle.own_channel_laws.specs.channel_model.specs.Timing.{times_held, times_end, times_features}
use Rattle.own_channel_laws.specs.channel_model.specs.Following.{follows}
use Rattle.own_channel_laws.specs.channel_model.specs.Hearing.{hears_content}
use Rattle.own_channel_laws.specs.channel_model.specs.Carrying.{takes}
use Rattle.channel_laws.specs.Adverse.{how_many, answers_so}
use Rattle.own_channel_laws.specs.OwnTalk.{command_with}
use Rattle.own_channel_laws.specs.Runs.{Occurrence, Comes, Connects, AsksFeatures, Disconnects, Sends, Gives, Fires, Tells, value_after, run_of}
use Rattle.own_channel_laws.specs.Tries.{one_if}
use Rattle.own_channel_laws.proofs.Lasting.{answers_of, follows-lasts, takes-lasts, connects-lasts, disconnects-last, sends-last, times-last, ends-last}
use Rattle.own_channel_laws.proofs.Converses.{WaitsSo, is_single, ConversesWhile}
use Rattle.own_channel_laws.proofs.Conversing.{conversed-on}
use Rattle.own_channel_laws.proofs.Saying.{answered-same, lost-same, asks-same}
use Rattle.own_channel_laws.proofs.Spending.{is_giving}

-- ---- lists

pub many-joined : {X : Type 0} (is : X → Bool) (xs ys : List X) → how_many is (xs ++ ys) ≡ how_many is xs + how_many is ys
many-joined is [] ys = omega arith
many-joined is (x ∷ xs) ys = let later = many-joined is xs ys in omega (arith, later)

pub many-last : {X : Type 0} (is : X → Bool) (xs : List X) (x : X) → how_many is (xs ++ x ∷ []) ≡ how_many is xs + one_if (is x)
many-last is xs x = let both = many-joined is xs (x ∷ []) in omega (arith, both)

pub one-least : (b : Bool) → one_if b ≤ 1
one-least true = omega arith
one-least false = omega arith

pub none-many : {X : Type 0} (is : X → Bool) (xs : List X) → length xs ≡ 0 → how_many is xs ≡ 0
none-many is [] none = refl
none-many is (x ∷ xs) none = absurd (omega (arith, none))

-- ---- answers

pub many-answers : (is : Command → Bool) (queue : List Queued) → how_many (answers_so is) queue ≡ how_many is (answers_of queue)
many-answers is [] = refl
many-answers is (Answer command ∷ queue) = ap (λ n. one_if (is command) + n) (many-answers is queue)
many-answers is (Ask errand ∷ queue) = let later = many-answers is queue in omega (arith, later)

pub no-answers : (is : Command → Bool) (queue : List Queued) → list_any is_answer queue ≡ false → how_many (answers_so is) queue ≡ 0
no-answers is [] none = refl
no-answers is (Answer command ∷ queue) none = cc
no-answers is (Ask errand ∷ queue) none = let later = no-answers is queue none in omega (arith, later)

-- so many of them wait, at least
abbrev pub Wait : (Command → Bool) → ℕ → List Saying → Channels → Type 0
Wait is n said v = n ≤ how_many is (answers_of v.queue)

pub wait_on : (is : Command → Bool) (n : ℕ) (v w : Channels) → answers_of w.queue ≡ answers_of v.queue → n ≤ how_many is (answers_of v.queue) → n ≤ how_many is (answers_of w.queue)
wait_on is n v w same least = subst (λ cs. n ≤ how_many is cs) (sym same) least

pub wait_more : (is : Command → Bool) (n : ℕ) (policy : Policy) (v u : Channels) (identifier : ℕ) (response : Option Content) (content : Content) → WaitsSo v u identifier response → n ≤ how_many is (answers_of v.queue) → n ≤ how_many is (answers_of (follows policy content u).queue)
wait_more is n policy v u identifier response content (inl same) least = wait_on is n v (follows policy content u) ((follows-lasts policy content u).2 ∙ same) least
wait_more is n policy v u identifier response content (inr (said, is_said, room, more)) least =
    let whole = many-last is (answers_of v.queue) (command_with identifier said) in
    let all : how_many is (answers_of (follows policy content u).queue) ≡ how_many is (answers_of v.queue ++ command_with identifier said ∷ []) = ap (how_many is) ((follows-lasts policy content u).2 ∙ more) in
    omega (arith, whole, all, least)

-- the host gives nothing
abbrev pub GivesNone : List Saying → Occurrence → Channels → Type 0
GivesNone past more v = is_giving more ≡ false

pub single_waits : (is : Command → Bool) (n : ℕ) (policy : Policy) (v : Channels) (more : Occurrence) → is_single more ≡ true → is_giving more ≡ false → n ≤ how_many is (answers_of v.queue) → n ≤ how_many is (answers_of (value_after policy more v).queue)
single_waits is n policy v (Comes pdu) single none least = cc
single_waits is n policy v (Connects psm) single none least = wait_on is n v (value_after policy (Connects psm) v) (connects-lasts psm v).2 least
single_waits is n policy v AsksFeatures single none least = wait_on is n v (value_after policy AsksFeatures v) (asks-same v) least
single_waits is n policy v (Disconnects own) single none least = wait_on is n v (value_after policy (Disconnects own) v) (disconnects-last own v).2 least
single_waits is n policy v (Sends own sdu) single none least = wait_on is n v (value_after policy (Sends own sdu) v) (sends-last own sdu v).2 least
single_waits is n policy v (Gives pdu) single none least = cc
single_waits is n policy v Fires single none least = cc
single_waits is n policy v Tells single none least = least

pub waits_converse : (is : Command → Bool) (n : ℕ) (policy : Policy) → ConversesWhile policy GivesNone (λ v. Unit {0}) (Wait is n)
waits_converse is n policy = record {
  first = tt;
  kept = λ v more lone known. tt;
  asked = λ past v u one identifier response content asking reply alike waits grants sound least after. wait_more is n policy v u identifier response content waits least;
  answered = λ past v identifier content responds same sound least after. wait_on is n v (hears_content policy identifier content v) (answered-same policy v identifier content responds) least;
  taken = λ past v pdu known same sound least after. wait_on is n v (takes (channel_of pdu) pdu v) (takes-lasts (channel_of pdu) pdu v).2 least;
  waits = λ past v tries own same sound least after. wait_on is n v (times_held (held_at own v) tries v) (times-last tries own v).2 least;
  ends = λ past v tries own same sound least after. wait_on is n v (times_end (held_at own v) tries v) (ends-last tries own v).2 least;
  loses = λ past v tries same sound least after. wait_on is n v (times_features v.features tries v) (lost-same tries v v.features) least;
  single = λ past v more single none known same sound least after. single_waits is n policy v more single none least;
}

pub answers-stay : (is : Command → Bool) (policy : Policy) (list : List Occurrence) (more : Occurrence) → is_giving more ≡ false
    → how_many (answers_so is) (run_of policy list).value.queue ≤ how_many (answers_so is) (run_of policy (list ++ more ∷ [])).value.queue
answers-stay is policy list more none =
    let n : ℕ = how_many is (answers_of (run_of policy list).value.queue) in
    let least : n ≤ how_many is (answers_of (run_of policy (list ++ more ∷ [])).value.queue)
    = conversed-on policy GivesNone (λ v. Unit {0}) (Wait is n) (waits_converse is n policy) list (more ∷ []) tt (omega arith) (none, tt) in
    let before = many-answers is (run_of policy list).value.queue in
    let after = many-answers is (run_of policy (list ++ more ∷ [])).value.queue in
    omega (arith, least, before, after)
