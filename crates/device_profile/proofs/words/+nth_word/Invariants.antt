use Rattle.device_profile.proofs.words.+nth_word.Given as goal

abbrev pub decreases-nth_word : goal.decreases-nth_word
decreases-nth_word l = l.n
