-- Lines and sentences, computed from the definitions alone.
use Rattle.std.proofs.Common.{◌≡◌, ℕ, Bool, true, false, List, [], ◌∷◌, ◌++◌, Option, Some, None, Result, Ok, Err, pos, negsuc, refl, lit≤}
use Rattle.std.specs.Prelude.{codes}
use Rattle.std.specs.Char.{encode_utf8}
use Rattle.std.specs.Fmt.{digits}
use Rattle.std.specs.Str.{is_utf8, chars}
use Rattle.pcl_items.specs.declared.pcl.command.Command.TheVariants.{FontSpacing, PageSize}
use Rattle.pcl_items.specs.declared.fault.LexCause.TheVariants.{NotInProfile, Syntax}
use Rattle.pcl_items.specs.declared.fault.Name.TheVariants.{Command}
use Rattle.pcl_items.specs.declared.pcl.command.Group.TheVariants.{Layout}
use Rattle.pcl_items.specs.declared.item.SimpleItem.TheVariants.{Parameterized}
use Rattle.pcl_items.specs.declared.number.Sign.{Sign}
use Rattle.pcl_items.specs.declared.number.Sign.TheVariants.{Absent, Minus}
use Rattle.device_profile.specs.declared.fault.Cause.TheVariants.{Range, Repeated}
use Rattle.device_profile.specs.declared.font.FontRequest.{FontRequest}
use Rattle.page_env.specs.declared.finding.Finding.TheVariants.{BadValue, NoFont, NotOnDevice}
use Rattle.verdict.specs.declared.reason.Reason.TheVariants.{Fault, Finding}
use Rattle.verdict.specs.declared.verdict.Verdict.TheVariants.{Fail, Pass}
use Rattle.command_names.specs.CommandNames.{table, texts_of}
use Rattle.judgement.specs.declared.failing_item.FailingItem.{FailingItem}
use Rattle.judgement.specs.declared.failing_item.FailingItem.TheVariants.{Simple}
use Rattle.judgement.specs.declared.failing_item.Judgement.{Judgement}
use Rattle.shown_bytes.specs.Decimals.{amount, minus}
use Rattle.shown_bytes.specs.Lengths.{millimetres, signed_hundredths}
use Rattle.shown_bytes.specs.Lettered.{lettered}
use Rattle.shown_bytes.specs.Shown.{shown_text}
use Rattle.streams.specs.declared.error.Error.{Error}
use Rattle.streams.specs.declared.error.Error.TheVariants.{Read}
use Rattle.job_reports.specs.declared.kind.Kind.TheVariants as kinds
use Rattle.job_reports.specs.CommandWords.{font_commands, look_words, setting_words, weight_words}
use Rattle.job_reports.specs.JobLines.{job_line}
use Rattle.job_reports.specs.JobSentences.{job_sentence, left_phrase, named_first, top_phrase}
use Rattle.job_reports.specs.Kinds.{kind_of}
use Rattle.job_reports.specs.Refusals.{refused_profile_sentence, unread_profile_sentence}
use Rattle.job_reports.specs.Reports.{Reported}

-- of a job for two printers, told of together or each by itself
abbrev report_of : Bool → Result Judgement Error → Option (List ℕ) → Reported
report_of is_each answer cause = record {
  is_each = is_each;
  names = codes "counter" ∷ codes "export-desk" ∷ [];
  job = codes "in/note 4712.pcl";
  answer = answer;
  cause = cause;
}

abbrev passed : Result Judgement Error
passed = Ok (record { verdict = Pass 1 22; failing_item = None; page = None; cursor = None; font = None })

-- the second printer has no page of this size
abbrev refused : Result Judgement Error
refused = Ok (record {
  verdict = Fail 134 2 (Finding NotOnDevice);
  failing_item = Some (Simple (Parameterized PageSize (record { sign = Absent; ten_thousandths = 20000; within = lit≤ tt })));
  page = Some 2;
  cursor = None;
  font = None;
})

-- the bytes are wrong, whatever the printer
abbrev faulty : Result Judgement Error
faulty = Ok (record { verdict = Fail 9 0 (Fault Syntax); failing_item = None; page = Some 1; cursor = None; font = None })

abbrev gone : Option (List ℕ)
gone = Some (codes "No such file or directory")

line_of_pass : job_line (report_of false passed None) ≡ codes "PASS pages=1 marks=22 in/note 4712.pcl\n"
unfolding digits
line_of_pass = refl

line_of_finding : job_line (report_of false refused None) ≡ codes "FAIL at=134 printer=export-desk 11 NotOnDevice in/note 4712.pcl\n"
unfolding digits
line_of_finding = refl

line_of_fault : job_line (report_of false faulty None) ≡ codes "FAIL at=9 1 Syntax in/note 4712.pcl\n"
unfolding digits
line_of_fault = refl

line_of_unread :
    job_line (report_of true (Err Read) gone) ≡ codes "ERROR read printer=counter in/note 4712.pcl: No such file or directory\n"
line_of_unread = refl

sentence_of_pass : job_sentence (report_of false passed None) ≡ codes "in/note 4712.pcl: each printer prints this job (pages=1 marks=22)\n"
unfolding shown_text is_utf8 chars encode_utf8 digits
sentence_of_pass = refl

sentence_of_finding : job_sentence (report_of false refused None)
    ≡ codes
    "in/note 4712.pcl: export-desk refuses this job at byte 134 on page 2, ESC &l2A: the printer does not have this size, orientation, tray or sides (11 NotOnDevice)\n"
unfolding shown_text is_utf8 chars encode_utf8 digits
sentence_of_finding = refl

-- the cursor stands 31.75 mm from the left and 38.1 mm from the top
abbrev placed : Result Judgement Error
placed = Ok (record {
  verdict = Fail 9 1 (Finding NotOnDevice);
  failing_item = None;
  page = Some 1;
  cursor = Some (record { x = pos 45_720_000_000; y = pos 54_864_000_000 });
  font = None;
})

sentence_of_place : job_sentence (report_of false placed None)
    ≡ codes
    "in/note 4712.pcl: counter refuses this job at byte 9 on page 1, 31.75 mm from the left and 38.10 mm from the top: the printer does not have this size, orientation, tray or sides (11 NotOnDevice)\n"
unfolding shown_text is_utf8 chars encode_utf8 digits left_phrase top_phrase millimetres signed_hundredths
sentence_of_place = refl

-- no face has this weight; the nearest has all else
abbrev bold : FontRequest
bold = record {
  symbol_set = record { number = 80_000; letter = 85 };
  spacing = 0;
  pitch = 100_000;
  height = 120_000;
  style = 0;
  weight = pos 30_000;
  typeface = 40_990_000;
}

abbrev missing : Result Judgement Error
missing = Ok (record {
  verdict = Fail 9 1 (Finding NoFont);
  failing_item = None;
  page = Some 1;
  cursor = None;
  font = Some (record { asked = bold; nearest = Some (record bold { weight = negsuc 9_999 }) });
})

sentence_of_font : job_sentence (report_of false missing None)
    ≡ codes
    "in/note 4712.pcl: counter refuses this job at byte 9 on page 1: the printer has no resident face like the one that is asked for, ESC (8U ESC (s0p10h12v0s3b4099T; the nearest is ESC (8U ESC (s0p10h12v0s-1b4099T (13 NoFont)\n"
unfolding shown_text is_utf8 chars encode_utf8 digits font_commands lettered amount minus setting_words look_words weight_words
sentence_of_font = refl

sentence_of_fault : job_sentence (report_of false faulty None)
    ≡ codes "in/note 4712.pcl: this job is wrong at byte 9 on page 1: the bytes here are no command (1 Syntax)\n"
unfolding shown_text is_utf8 chars encode_utf8 digits
sentence_of_fault = refl

-- pclcheck does not check proportional spacing, which the manual has; a minus before the value is wrong anyway
abbrev spaced : Sign → Option FailingItem
spaced sign = Some (Simple (Parameterized FontSpacing (record { sign = sign; ten_thousandths = 10000; within = lit≤ tt })))

abbrev failing_at : Option FailingItem → Result Judgement Error
failing_at failing_item = Ok (record {
  verdict = Fail 7 1 (Finding BadValue);
  failing_item = failing_item;
  page = Some 1;
  cursor = None;
  font = None;
})

sentence_of_unchecked : job_sentence (report_of true (failing_at (spaced Absent)) None)
    ≡ codes
    "in/note 4712.pcl: pclcheck cannot judge this job for counter at byte 7 on page 1, ESC (s1P, primary spacing 1, proportional ((s1P): pclcheck does not check proportional spacing (10 BadValue)\n"
unfolding shown_text is_utf8 chars encode_utf8 digits table texts_of
sentence_of_unchecked = refl

-- what pclcheck does not check is called as HP's manual calls it
abbrev unchecked : Result Judgement Error
unchecked = Ok (record {
  verdict = Fail 7 0 (Fault (NotInProfile (Command Layout 80)));
  failing_item = None;
  page = Some 1;
  cursor = None;
  font = None;
})

sentence_of_refused : job_sentence (report_of false unchecked None)
    ≡ codes
    "in/note 4712.pcl: pclcheck cannot judge this job at byte 7 on page 1, page length (&l#P): pclcheck does not check this byte or command (3 NotInProfile(&lP))\n"
unfolding shown_text is_utf8 chars encode_utf8 digits table texts_of
sentence_of_refused = refl

sentence_of_wrong : job_sentence (report_of false (failing_at (spaced Minus)) None)
    ≡ codes "in/note 4712.pcl: this job is wrong at byte 7 on page 1, ESC (s-1P: the command does not take this value (10 BadValue)\n"
unfolding shown_text is_utf8 chars encode_utf8 digits table texts_of
sentence_of_wrong = refl

-- at the end of a job it is an overlay that has such a value
kind_at_end : kind_of (Finding BadValue) None ≡ kinds.Unchecked
kind_at_end = refl

sentence_of_unread : job_sentence (report_of true (Err Read) gone)
    ≡ codes "in/note 4712.pcl: this job cannot be read for counter: No such file or directory (ERROR read)\n"
unfolding shown_text is_utf8 chars encode_utf8
sentence_of_unread = refl

refused_at_line : refused_profile_sentence 1 (codes "bad.profile") 3 Repeated
    ≡ codes "bad.profile: line 3: this gives again what an earlier line gave, or a number twice (ERROR profile 1 Repeated)\n"
unfolding shown_text is_utf8 chars encode_utf8 digits
refused_at_line = refl

refused_as_whole : refused_profile_sentence 2 (codes "bad.profile") 0 Range
    ≡ codes "bad.profile: the text has more than 65,536 bytes, or the panel offers what the printer lacks (ERROR profile 2 Range)\n"
unfolding shown_text is_utf8 chars encode_utf8 digits
refused_as_whole = refl

unread : unread_profile_sentence (codes "gone.profile") gone
    ≡ codes "gone.profile: this profile cannot be read: No such file or directory (ERROR read)\n"
unfolding shown_text is_utf8 chars encode_utf8
unread = refl

-- ---- names

-- the letter é in UTF-8, and a backslash
letter_and_backslash : named_first (codes "caf" ++ 195 ∷ 169 ∷ codes "\\.pcl") ≡ codes "caf" ++ 195 ∷ 169 ∷ codes "\\x5c.pcl: "
unfolding shown_text is_utf8 chars encode_utf8
letter_and_backslash = refl

-- a control character behind ASCII
control : named_first (codes "a" ++ 194 ∷ 155 ∷ codes "m") ≡ codes "a\\xc2\\x9bm: "
unfolding shown_text is_utf8 chars encode_utf8
control = refl

-- a letter beside a byte that is no UTF-8
no_text : named_first (195 ∷ 169 ∷ 233 ∷ codes ".pcl") ≡ codes "\\xc3\\xa9\\xe9.pcl: "
unfolding shown_text is_utf8 chars encode_utf8
no_text = refl
