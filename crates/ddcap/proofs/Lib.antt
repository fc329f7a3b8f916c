mod InTwo
