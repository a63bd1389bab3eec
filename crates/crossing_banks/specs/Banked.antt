-- What a call on a bank answers to a caller in C, with the bank beside it. Assumes nothing.
use Rattle.answer.specs.Reply.{Reply, number, place}
use Rattle.voice_bank.specs.declared.Bank.{Bank}
use Rattle.crossing_banks.specs.declared.PlainBanked.{PlainBanked}

abbrev pub plain_banked : Reply → Bank → PlainBanked
plain_banked reply bank = record { number = number reply; place = place reply; bank = bank }
