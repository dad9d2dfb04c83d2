-- A client that is told of a loss ends its link (Core 5.1, Volume 3 Part A, 6.2; Object Push Profile 1.2, 4.3).
use Rattle.std.specs.Prelude.{ℕ, ◌≡◌, Bool, true, false, Option, Some, None, is_some}
use Rattle.shelf_model.specs.bt_base.specs.declared.settings.Settings.{Settings}
use Rattle.push_laws.specs.push_model.specs.declared.closing.CloseCause.TheVariants.{RetryLimit, Own}
use Rattle.push_laws.specs.push_model.specs.declared.course.Point.TheVariants.{Due, Asked}
use Rattle.push_laws.specs.push_model.specs.declared.course.Stage.{Stage}
use Rattle.push_laws.specs.push_model.specs.declared.course.Stage.TheVariants.{Rest, Link, SearchChannel, Search, SearchEnd, Features, ObjectChannel, Object, ObjectEnd, LinkEnd, Over}
use Rattle.push_laws.specs.push_model.specs.Client.{Client}
use Rattle.push_laws.specs.push_model.specs.Events.{ChannelClosed, FeaturesLost, search_psm, is_asking_features, hears_news}
use Rattle.shelf_model.specs.host_model.specs.Clients.{ClientProfile, client_profile}

-- the channel that it uses, where the one of the object has that PSM: it asked for it, and was not told its end
abbrev pub in_use : Stage → (object : ℕ) → Option ℕ
in_use Rest object = None
in_use (Link point) object = None
in_use (SearchChannel Due) object = None
in_use (SearchChannel Asked) object = Some search_psm
in_use Search object = Some search_psm
in_use (SearchEnd point) object = Some search_psm
in_use (Features point) object = None
in_use (ObjectChannel Due) object = None
in_use (ObjectChannel Asked) object = Some object
in_use Object object = Some object
in_use (ObjectEnd point) object = Some object
in_use (LinkEnd point) object = None
in_use Over object = None

-- it closes its channel
abbrev pub is_closing : Stage → Bool
is_closing Rest = false
is_closing (Link point) = false
is_closing (SearchChannel point) = false
is_closing Search = false
is_closing (SearchEnd point) = true
is_closing (Features point) = false
is_closing (ObjectChannel point) = false
is_closing Object = false
is_closing (ObjectEnd point) = true
is_closing (LinkEnd point) = false
is_closing Over = false

-- no push goes on over its link: it ends that, or has none
abbrev pub is_off : Stage → Bool
is_off Rest = true
is_off (Link point) = true
is_off (SearchChannel point) = false
is_off Search = false
is_off (SearchEnd point) = false
is_off (Features point) = false
is_off (ObjectChannel point) = false
is_off Object = false
is_off (ObjectEnd point) = false
is_off (LinkEnd point) = true
is_off Over = true

-- Nothing is left to it but its link: where a request for the channel that it uses, or for its end, was given as often as may be, where the
-- features never came, and where it closed its channel with a cause. Then it asks for the end of the link, whatever waits.
pub record LeavesAtLosses : Type 0 where
  pub closed : (client : Client) (psm : ℕ) → in_use client.stage client.psm ≡ Some psm → (hears_news (ChannelClosed psm RetryLimit) client).stage ≡ LinkEnd Due
  pub featureless : (client : Client) → is_asking_features client.stage ≡ true → (hears_news FeaturesLost client).stage ≡ LinkEnd Due
  pub taken_back : (client : Client) (psm : ℕ) → is_closing client.stage ≡ true → in_use client.stage client.psm ≡ Some psm → is_some client.cause ≡ true → (hears_news (ChannelClosed psm Own) client).stage ≡ LinkEnd Due
  pub leaves : (settings : Settings) (pushing : ClientProfile) → pushing.client.stage ≡ LinkEnd Due → (client_profile settings).leaves_link pushing ≡ true
