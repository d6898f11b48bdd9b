-- What the calls answer, as numbers: document 01, "Connection record" and "Summaries". Assumes nothing.
use Rattle.std.specs.Prelude.{ℕ, cond}
use Rattle.refusal.specs.Answer.{Answer, returned, refused}
use Rattle.states.specs.declared.answers.Failure.TheVariants.{StreamsFull, StreamUnknown, EngineFailed}
use Rattle.states.specs.declared.answers.Summary.{Summary}
use Rattle.states.specs.declared.answers.Summary.TheVariants as S
use Rattle.states.specs.Table.{Said, queued, closed, idle, handed, answered}
use Rattle.meulhaton_fields.specs.Requests.{bare, request_image}
use Rattle.meulhaton_calls.specs.declared.replies.SummaryImage.{SummaryImage}
use Rattle.meulhaton_calls.specs.declared.replies.Reply.{Reply}

-- ---- summaries by their numbers: 1 IGNORED, 2 to 4 SUCCESS, 5 to 7 FAILURE
abbrev pub summary_numbers : ℕ → ℕ → SummaryImage
summary_numbers kind value = record { kind = kind; value = value }

-- none
abbrev pub no_summary : SummaryImage
no_summary = summary_numbers 0 0

-- the value is has_more or qid
abbrev pub summary_image : Summary → SummaryImage
summary_image S.Ignored = summary_numbers 1 0
summary_image S.Success = summary_numbers 2 0
summary_image (S.HasMore more) = summary_numbers 3 (cond more 1 0)
summary_image (S.Stream qid) = summary_numbers 4 qid
summary_image (S.Failure StreamsFull) = summary_numbers 5 0
summary_image (S.Failure StreamUnknown) = summary_numbers 6 0
summary_image (S.Failure EngineFailed) = summary_numbers 7 0

-- ---- what a call answers
-- with neither a request nor a summary
abbrev pub saying : ℕ → ℕ → Reply
saying number said = record { refusal = number; said = said; summary = no_summary; place = 0; number = 0; request = bare 0 }

-- 1 queued, 2 closed, 3 idle, 4 handed over with a request and its number, 5 answered with a summary and its request's number
abbrev pub reply_of : Answer Said → Reply
reply_of (returned queued) = saying 0 1
reply_of (returned closed) = saying 0 2
reply_of (returned idle) = saying 0 3
reply_of (returned (handed request n)) = record { refusal = 0; said = 4; summary = no_summary; place = 0; number = n; request = request_image request }
reply_of (returned (answered summary n)) = record { refusal = 0; said = 5; summary = summary_image summary; place = 0; number = n; request = bare 0 }
reply_of (refused number place) = record { refusal = number; said = 0; summary = no_summary; place = place; number = 0; request = bare 0 }
