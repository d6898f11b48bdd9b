-- A summary given as numbers, as a reply has it. Assumes nothing.
use Rattle.std.specs.Prelude.{ℕ, Bool, cond, ◌&&◌, List, eqb}
use Rattle.refusal.specs.Answer.{Answer, returned, refused}
use Rattle.states.specs.declared.answers.Failure.TheVariants.{StreamsFull, StreamUnknown, EngineFailed}
use Rattle.states.specs.declared.answers.Summary.{Summary}
use Rattle.states.specs.declared.answers.Summary.TheVariants.{Ignored, Success, HasMore, Stream, Failure}
use Rattle.summaries.specs.Summaries.{pack_summary}
use Rattle.meulhaton_calls.specs.declared.replies.SummaryImage.{SummaryImage}
use Rattle.meulhaton_calls.specs.Replies.{summary_image}

-- the summary of this number; any other number is taken for the last
abbrev pub summary_of : SummaryImage → Summary
summary_of s =
    cond (eqb s.kind 1) Ignored
    (cond (eqb s.kind 2) Success
    (cond (eqb s.kind 3) (HasMore (eqb s.value 1))
    (cond (eqb s.kind 4) (Stream s.value)
    (cond (eqb s.kind 5) (Failure StreamsFull)
    (cond (eqb s.kind 6) (Failure StreamUnknown) (Failure EngineFailed))))))

-- numbers that name a summary are those of the summary that they are taken for
abbrev pub is_summary : SummaryImage → Bool
is_summary s = eqb (summary_image (summary_of s)).kind s.kind && eqb (summary_image (summary_of s)).value s.value

-- what is packed: 24 where the numbers name no summary
unfoldable pub summary_form : SummaryImage → Answer (List ℕ)
summary_form s = cond (is_summary s) (returned (pack_summary (summary_of s))) (refused 24 0)
