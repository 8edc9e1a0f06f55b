-- Objects of jobs, computed from the definitions alone.
use Rattle.std.proofs.Common.{◌≡◌, ℕ, Bool, true, false, List, [], ◌∷◌, ◌++◌, Option, Some, None, Result, Ok, Err, pos, negsuc, refl, lit≤}
use Rattle.std.specs.Prelude.{codes}
use Rattle.std.specs.Char.{encode_utf8}
use Rattle.std.specs.Fmt.{digits}
use Rattle.std.specs.Str.{is_utf8, chars}
use Rattle.serde_json.proofs.OnLiterals.{serde_json_on_literals}
use Rattle.pcl_items.specs.declared.pcl.command.Command.TheVariants.{PageSize}
use Rattle.pcl_items.specs.declared.item.SimpleItem.TheVariants.{Parameterized}
use Rattle.pcl_items.specs.declared.number.Sign.TheVariants.{Absent}
use Rattle.device_profile.specs.declared.field.Field.TheVariants.{Size}
use Rattle.device_profile.specs.declared.font.FontRequest.{FontRequest}
use Rattle.page_env.specs.declared.finding.Finding.TheVariants.{NoFont, NotOnDevice, Unset}
use Rattle.verdict.specs.declared.reason.Reason.TheVariants.{Finding}
use Rattle.verdict.specs.declared.verdict.Verdict.TheVariants.{Fail, Pass}
use Rattle.judgement.specs.declared.failing_item.FailingItem.TheVariants.{Simple}
use Rattle.judgement.specs.declared.failing_item.Judgement.{Judgement}
use Rattle.streams.specs.declared.error.Error.{Error}
use Rattle.streams.specs.declared.error.Error.TheVariants.{Read}
use Rattle.many_jobs.specs.JobObjects.{job_object}
use Rattle.job_reports.specs.CommandWords.{font_commands, look_words, setting_words, weight_words}
use Rattle.shown_bytes.specs.Decimals.{amount, minus}
use Rattle.shown_bytes.specs.Lengths.{millimetres, signed_hundredths}
use Rattle.shown_bytes.specs.Lettered.{lettered}
use Rattle.job_reports.specs.Reports.{Reported}

-- of a job of this name for two printers, told of together or each by itself
abbrev report_of : Bool → List ℕ → Result Judgement Error → Option (List ℕ) → Reported
report_of is_each job answer cause = record {
  is_each = is_each;
  names = codes "counter" ∷ codes "export-desk" ∷ [];
  job = job;
  answer = answer;
  cause = cause;
}

abbrev passed : Result Judgement Error
passed = Ok (record { verdict = Pass 1 22; failing_item = None; page = None; cursor = None; font = None })

-- the panel of the second printer leaves the size of the page open
abbrev unset : Result Judgement Error
unset = Ok (record {
  verdict = Fail 134 2 (Finding (Unset Size));
  failing_item = Some (Simple (Parameterized PageSize (record { sign = Absent; ten_thousandths = 20000; within = lit≤ tt })));
  page = Some 3;
  cursor = None;
  font = None;
})

-- no face has this weight; the nearest has all else
abbrev bold : FontRequest
bold = record {
  symbol_set = record { number = 80_000; letter = 85 };
  spacing = 0;
  pitch = 100_000;
  height = 120_000;
  style = 0;
  weight = pos 30_000;
  typeface = 40_990_000;
}

abbrev missing : Result Judgement Error
missing = Ok (record {
  verdict = Fail 9 1 (Finding NoFont);
  failing_item = None;
  page = Some 1;
  cursor = None;
  font = Some (record { asked = bold; nearest = Some (record bold { weight = negsuc 9_999 }) });
})

object_of_font : job_object [] (report_of false (codes "a.pcl") missing None)
    ≡ codes
    "{\"asked\":\"ESC (8U ESC (s0p10h12v0s3b4099T\",\"at\":9,\"code\":13,\"finding\":\"NoFont\",\"job\":\"a.pcl\",\"kind\":\"printer\",\"nearest\":\"ESC (8U ESC (s0p10h12v0s-1b4099T\",\"page\":1,\"printer\":\"counter\",\"profile\":1,\"verdict\":\"FAIL\"}\n"
unfolding serde_json_on_literals is_utf8 chars encode_utf8 digits font_commands lettered amount minus setting_words look_words weight_words
object_of_font = refl

abbrev first_unset : Result Judgement Error
first_unset = Ok (record {
  verdict = Fail 134 1 (Finding (Unset Size));
  failing_item = None;
  page = Some 1;
  cursor = None;
  font = None;
})

object_of_pass : job_object [] (report_of false (codes "in/note 4712.pcl") passed None)
    ≡ codes "{\"job\":\"in/note 4712.pcl\",\"marks\":22,\"pages\":1,\"verdict\":\"PASS\"}\n"
unfolding serde_json_on_literals is_utf8 chars encode_utf8 digits
object_of_pass = refl

object_of_fail : job_object [] (report_of false (codes "a.pcl") unset None)
    ≡ codes
    "{\"at\":134,\"code\":12,\"command\":\"ESC &l2A\",\"field\":\"Size\",\"finding\":\"Unset\",\"job\":\"a.pcl\",\"kind\":\"panel\",\"page\":3,\"printer\":\"export-desk\",\"profile\":2,\"verdict\":\"FAIL\"}\n"
unfolding serde_json_on_literals is_utf8 chars encode_utf8 digits
object_of_fail = refl

-- a printer lacks what is asked for, where the cursor stands 31.75 mm from the left and 38.1 mm from the top
abbrev placed : Result Judgement Error
placed = Ok (record {
  verdict = Fail 9 1 (Finding NotOnDevice);
  failing_item = None;
  page = Some 1;
  cursor = Some (record { x = pos 45_720_000_000; y = pos 54_864_000_000 });
  font = None;
})

object_of_place : job_object [] (report_of false (codes "a.pcl") placed None)
    ≡ codes
    "{\"at\":9,\"code\":11,\"finding\":\"NotOnDevice\",\"job\":\"a.pcl\",\"kind\":\"printer\",\"page\":1,\"printer\":\"counter\",\"profile\":1,\"verdict\":\"FAIL\",\"x_mm\":\"31.75\",\"y_mm\":\"38.10\"}\n"
unfolding serde_json_on_literals is_utf8 chars encode_utf8 digits millimetres signed_hundredths
object_of_place = refl

explained : job_object (codes "12 Unset\nset it\n")
    (report_of true (codes "a.pcl") first_unset None)
    ≡ codes
    "{\"at\":134,\"code\":12,\"explanation\":\"12 Unset\\nset it\\n\",\"field\":\"Size\",\"finding\":\"Unset\",\"job\":\"a.pcl\",\"kind\":\"panel\",\"page\":1,\"printer\":\"counter\",\"profile\":1,\"verdict\":\"FAIL\"}\n"
unfolding serde_json_on_literals is_utf8 chars encode_utf8 digits
explained = refl

object_of_unread : job_object [] (report_of true (codes "a.pcl") (Err Read) (Some (codes "No such file or directory")))
    ≡ codes "{\"cause\":\"No such file or directory\",\"error\":\"read\",\"job\":\"a.pcl\",\"printer\":\"counter\",\"verdict\":\"ERROR\"}\n"
unfolding serde_json_on_literals is_utf8 chars encode_utf8 digits
object_of_unread = refl

-- ---- names

-- the letter é in UTF-8, and a backslash
letter_and_backslash : job_object [] (report_of false (codes "caf" ++ 195 ∷ 169 ∷ codes "\\x.pcl") passed None)
    ≡ codes "{\"job\":\"caf" ++ 195 ∷ 169 ∷ codes "\\\\\\\\x.pcl\",\"marks\":22,\"pages\":1,\"verdict\":\"PASS\"}\n"
unfolding serde_json_on_literals is_utf8 chars encode_utf8 digits
letter_and_backslash = refl

-- a byte that is no UTF-8, and a backslash
no_text : job_object [] (report_of false (codes "caf" ++ 233 ∷ codes "\\ x.pcl") passed None)
    ≡ codes "{\"job\":\"caf\\\\xe9\\\\x5c x.pcl\",\"marks\":22,\"pages\":1,\"verdict\":\"PASS\"}\n"
unfolding serde_json_on_literals is_utf8 chars encode_utf8 digits
no_text = refl

-- quotes and the end of a line
quoted_name : job_object [] (report_of false (codes "\"a\"\n") passed None)
    ≡ codes "{\"job\":\"\\\"a\\\"\\n\",\"marks\":22,\"pages\":1,\"verdict\":\"PASS\"}\n"
unfolding serde_json_on_literals is_utf8 chars encode_utf8 digits
quoted_name = refl
