-- A client that asks for no channel of RFCOMM has none.
use Rattle.std.proofs.Common.{◌≡◌, ℕ, List, [], ◌∷◌, ◌++◌, Ok, inl, inr, refl, sym, subst, ◌∙◌}
use Rattle.std.specs.List.{AllByRecursion}
use Rattle.request_laws.specs.capture.specs.declared.flow.Flow.TheVariants.{Out, Into}
use Rattle.request_laws.specs.link_talk.specs.declared.call.Call.{Call}
use Rattle.request_laws.specs.link_talk.specs.declared.channel.Channel.{Channel}
use Rattle.request_laws.specs.link_talk.specs.Channels.{Entry, reading}
use Rattle.request_laws.specs.link_talk.specs.Sayings.{Saying, Command, Carried, GaveUp}
use Rattle.request_laws.specs.l2cap_signal.specs.Commands.{connection_request}
use Rattle.request_laws.specs.channel_laws.specs.OwnTalk.{command_with}
use Rattle.request_laws.specs.channel_laws.specs.Signals.{StandsIn}
use Rattle.request_laws.specs.channel_laws.specs.Singly.{calls_that_went}
use Rattle.request_laws.specs.channel_laws.proofs.Origins.{Asked, Origin}
use Rattle.request_laws.specs.channel_laws.proofs.Singling.{calls-more}
use Rattle.request_laws.specs.host_laws.specs.OverLinks.{GoesOut}
use Rattle.request_laws.specs.host_laws.proofs.Seeking.{all-from}
use Rattle.following_laws.specs.Following.{IsNotMuxed}
use Rattle.behind_laws.specs.InTurn.{AsksDirectly}

-- ---- requests

all_stands : (P : Saying → Type 0) (s : Saying) (said : List Saying) → AllByRecursion P said → StandsIn s said → P s
all_stands P s [] all stands = absurd stands
all_stands P s (one ∷ said) all (inl same) = subst P same all.0
all_stands P s (one ∷ said) all (inr there) = all_stands P s said all.1 there

both_none : (xs ys : List Call) → xs ++ ys ≡ [] → (xs ≡ []) × (ys ≡ [])
both_none [] ys is = (refl, is)
both_none (x ∷ xs) ys is = cc

-- a host that asks for no channel has no request in its talk
none_asked : (said : List Saying) (identifier psm source : ℕ) → calls_that_went Out said ≡ [] → Asked Out identifier psm source said → ⊥
none_asked [] identifier psm source none stands = absurd stands
none_asked (one ∷ said) identifier psm source none stands = by stands (none_asked said identifier psm source parts.0)
  where
    parts : (calls_that_went Out said ≡ []) × (calls_that_went Out (one ∷ []) ≡ [])
    parts = both_none (calls_that_went Out said) (calls_that_went Out (one ∷ [])) (sym (calls-more Out (one ∷ []) said) ∙ none)

    here : calls_that_went Out (Command Out (Ok (command_with identifier (connection_request psm source))) ∷ []) ≡ [] → ⊥
    here none' = cc

    by : StandsIn (Command Out (Ok (command_with identifier (connection_request psm source)))) (one ∷ said) → (Asked Out identifier psm source said → ⊥) → ⊥
    by (inl same) later = here (subst (λ (s : Saying). calls_that_went Out (s ∷ []) ≡ []) same parts.1)
    by (inr there) later = later there

-- ---- channels

not_muxed : (said : List Saying) (channel : Channel) → calls_that_went Out said ≡ [] → AllByRecursion AsksDirectly said → Origin said channel → channel.psm ≡ 0x0003 → ⊥
not_muxed said channel none direct (identifier, status, inl (granted, asked)) = all_stands AsksDirectly (Command Into (Ok (command_with identifier (connection_request channel.psm channel.peer)))) said direct asked
not_muxed said channel none direct (identifier, status, inr (granted, asked)) = absurd (none_asked said identifier channel.psm channel.own none asked)

none_muxed : (said : List Saying) (entries : List Entry) → calls_that_went Out said ≡ [] → AllByRecursion AsksDirectly said → AllByRecursion (λ (entry : Entry). Origin said entry.channel) entries → AllByRecursion IsNotMuxed entries
none_muxed said [] none direct from = tt
none_muxed said (entry ∷ entries) none direct from = (not_muxed said entry.channel none direct from.0, none_muxed said entries none direct from.1)

pub entries-direct : (said : List Saying) → calls_that_went Out said ≡ [] → AllByRecursion AsksDirectly said → AllByRecursion IsNotMuxed (reading said).entries
entries-direct said none direct = none_muxed said (reading said).entries none direct (all-from said)

-- what goes out asks the host for nothing
pub out-directly : (said : List Saying) → AllByRecursion GoesOut said → AllByRecursion AsksDirectly said
out-directly [] out = tt
out-directly (Command Out answer ∷ said) out = (tt, out-directly said out.1)
out-directly (Command Into answer ∷ said) out = absurd out.0
out-directly (Carried flow pdu ∷ said) out = (tt, out-directly said out.1)
out-directly (GaveUp forgone ∷ said) out = absurd out.0
