mod OnFiles
