-- Which requests for information and for options wait, looking back and in one pass.
use Rattle.std.proofs.Common.{◌≡◌, ℕ, eqb, Bool, true, false, cond, ◌||◌, Option, Some, None, refl, ap}
use Rattle.std.specs.Prelude.{is_some}
use Rattle.std.specs.List.{filter_map}
use Rattle.link_talk.specs.capture.specs.Histories.{given_by}
use Rattle.link_talk.specs.Waits.{Notice, AsksInformation, InformationEnds, notice, noticed, Demand, AsksOptions, OptionsAnswered, OptionsImplied, demand, demanded}
use Rattle.talk_laws.specs.Requests.{information_asked, ends_information, options_asked, answers_options, RequestsLookBack}
use Rattle.talk_laws.proofs.Unanswered.{waiting_behind, pass-finds}

same_by : (waiting : ℕ) (same : Bool) → cond same None (Some waiting) ≡ cond (same || false) None (Some waiting)
same_by waiting true = refl
same_by waiting false = refl

noticed_is : (waiting : Option ℕ) (one : Notice) → noticed waiting one ≡ waiting_behind information_asked ends_information waiting one
noticed_is waiting (AsksInformation identifier) = refl
noticed_is None (InformationEnds identifier) = refl
noticed_is (Some waiting) (InformationEnds identifier) = same_by waiting (eqb waiting identifier)

demanded_is : (waiting : Option ℕ) (one : Demand) → demanded waiting one ≡ waiting_behind options_asked answers_options waiting one
demanded_is waiting (AsksOptions identifier) = refl
demanded_is None (OptionsAnswered identifier) = refl
demanded_is (Some waiting) (OptionsAnswered identifier) = same_by waiting (eqb waiting identifier)
demanded_is None OptionsImplied = refl
demanded_is (Some waiting) OptionsImplied = refl

pub requests-look_back : RequestsLookBack
requests-look_back = record {
  information = λ said. ap is_some (pass-finds information_asked ends_information noticed noticed_is (filter_map notice said));
  options = λ party said channel. ap is_some (pass-finds options_asked answers_options demanded demanded_is (given_by (demand party channel) said));
}
