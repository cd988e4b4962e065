-- What is claimed of the text holds.
use Rattle.drawing.specs.Claims.{Claims}
use Rattle.drawing.proofs.Recovered.{report_of_text, text_of_report, text_gives_report, zeros_unseen}
use Rattle.drawing.proofs.Longest.{text_longest, longest_reached}
use Rattle.drawing.proofs.Answers.{answers}

pub claims : Claims
claims =
    record {
      report_of_text = report_of_text;
      text_of_report = text_of_report;
      text_gives_report = text_gives_report;
      zeros_unseen = zeros_unseen;
      text_longest = text_longest;
      longest_reached = longest_reached;
      answers = answers;
    }
