mod TextLaws
mod WhyLaws
